-- `Sizes` has the number of index regions and of heap regions. Index regions come first. `place r c` is `8 * r + c`;
-- `is_place s p` says that p names a cell of a heap region; `region_at`, `cell_at` take it apart. `formatted_image s`
-- is the list of all regions before anything is stored.
pub mod Sizes
pub mod Places
pub mod Laws
