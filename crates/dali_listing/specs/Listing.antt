-- What a listing of an image's records is.
--     in_memory regions        the words of regions, as they stand in memory
--     pair_of row              the pair that a row is
--     pairs_of rows            the pairs that rows are
--     in_region s image r      the pairs that the entries of a region stand for
--     order row other          by key, and rows of one key by value, byte by byte, a prefix first
--     IsListing s image rows   the rows are just the records that the image stores, in order, each once
use Rattle.std.specs.Prelude.{◌↔◌, ℕ, List, map, filter_map, Contains}
use Rattle.std.specs.declared.cmp.Ordering.{Ordering}
use Rattle.std.specs.Ordering.{ordering_then, nat_cmp}
use Rattle.std.specs.Cmp.Lexicographic.{slice_cmp}
use Rattle.std.specs.List.Sorted.{IsStrictlySortedBy}
use Rattle.dali_geometry.specs.Sizes.{Sizes}
use Rattle.dali_region.specs.State.{RegionState}
use Rattle.dali_access.specs.Index.Entries.{entries}
use Rattle.dali_access.specs.Index.Records.{stored, records}
use Rattle.dali_listing.specs.declared.Listed.{Listed}

abbrev pub in_memory : List RegionState → List (List ℕ)
in_memory regions = map (λ g. g.words) regions

abbrev pub pair_of : Listed → ℕ × List ℕ
pair_of row = (row.key, row.value)

abbrev pub pairs_of : List Listed → List (ℕ × List ℕ)
pairs_of rows = map pair_of rows

abbrev pub in_region : Sizes → List (List ℕ) → ℕ → List (ℕ × List ℕ)
in_region s image r = filter_map (stored s image r) entries

abbrev pub order : Listed → Listed → Ordering
order row other = ordering_then (nat_cmp row.key other.key) (slice_cmp nat_cmp row.value other.value)

pub record IsListing (s : Sizes) (image : List (List ℕ)) (rows : List Listed) : Type 0 where
  pub exact : (k : ℕ) (v : List ℕ) → Contains (pairs_of rows) (k, v) ↔ Contains (records s image) (k, v)
  pub ascending : IsStrictlySortedBy order rows
