-- A *script* is a row of commands; a *round* is one command with its *client blocks*, each the commands of one client
-- (and no block of the log). Bytes *spell* a script where their command lines, read one after another, are the lines of
-- the script: each is right where it stands, the last leaves no client block open, each round has one, and no round
-- follows another. A line is *wrong* where it fails a test in the place to which the lines before it lead. A script is
-- *right* where its numbers are in their ranges, its first command alone makes or opens a store, and each of its rounds
-- has one client block of each of its clients. The commands of one are *in place*: each stands where a transaction is
-- open, or where none is, as it must.
pub mod Texts
pub mod Lines
pub mod Names
pub mod Faults
pub mod Items
pub mod Places
pub mod Grammar
pub mod Scripts
pub mod Reading
pub mod Parser
pub mod Forms
pub mod Reasons
