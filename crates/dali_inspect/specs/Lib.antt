-- `IsInspected`: regions and lists are what a restart gives of the files that were copied (`Gives`, `IsReadAs`), with
-- the image that it begins with, and how many bytes the records of the log have with which it ends. `cells_in_use`,
-- `entries_in_use`: the live ones of all regions of their kind.
pub mod Counts
pub mod Errors
pub mod Inspected
