-- `said_text` is what a client says, `client_text` the same behind its number and a blank, with a line feed,
-- `alone_text` without the number. `line_text` is a line that no client says, `text_of` the same with the line feed;
-- `texts` and `client_texts` are many lines, one after another. `value_text` prints a value byte by byte, `list_text` a
-- list of numbers, with a blank between two of them, or `none`.
pub mod Texts
pub mod Said
pub mod Lines
