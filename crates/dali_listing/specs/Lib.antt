-- Rows are a *listing* of an image (`IsListing`) where their pairs are just its records, and each is before all that
-- follow: by key, then by value byte by byte, a prefix first.
pub mod Listing
