-- The lines of operations on a region: who comes back finds its operation as it was left, but for stray writes.
use Rattle.std.proofs.Common.{◌≡◌, ℕ, zero, suc, ◌+◌, Bool, true, false, List, [], ◌∷◌, ◌++◌, length, Option, Some, None, IsSomeAnd, refl, ap, sym, subst, ◌∙◌, arith}
use Rattle.std.specs.Prelude.{slice_get, filter_map, ◌&&◌, if◌then◌else◌}
use Rattle.std.specs.List.{cons_option}
use Rattle.std.proofs.lemmas.List.{append-nil, length-set, length_push}
use Rattle.std.proofs.lemmas.List.Elements.{filter_map-append}
use Rattle.dali_lists.proofs.Lists.{get_front, get_push}
use Rattle.dali_runs.proofs.CountsLemmas.Lists.{some_same}
use Rattle.dali_notes.specs.History.{IsSeen, signs}
use Rattle.dali_region.specs.State.{RegionState, poked, checked}
use Rattle.dali_system.specs.declared.operation.Operation.{Operation}
use Rattle.dali_system.specs.UnderWay.{OneIsUnderWay}
use Rattle.dali_concurrent.specs.Entries.{region_note}
use Rattle.dali_concurrent.specs.Told.{Item, Line, History}
use Rattle.dali_concurrent.proofs.Lists.{filter_map-none}
use Rattle.dali_locked.specs.Regions.{is_operating, region_on, op_region, op_regions, IsAt, OperationStands}

-- ---- what is picked
unsigned : (r : ℕ) (x : Line) → signs (region_note r) x.0 ≡ false → op_region r x ≡ None
unsigned r x h = ap (λ b. if b && is_operating x.1.0 then region_on x.1.1 else None) h

pub op_left : (r : ℕ) (seen now : History) → IsSeen now (region_note r) seen → op_regions r now ≡ op_regions r seen
op_left r seen now is =
    ap (op_regions r) is.all ∙ (filter_map-append (op_region r) seen is.rest
    ∙ (ap (λ l. op_regions r seen ++ l) (filter_map-none (op_region r) is.rest (λ i x at. unsigned r x (is.none x (i, at)))) ∙ append-nil (op_regions r seen)))

op_more : (r k : ℕ) (seen now : History) → (is : IsSeen now k seen) → op_regions r now ≡ op_regions r seen ++ op_regions r is.rest
op_more r k seen now is = ap (op_regions r) is.all ∙ filter_map-append (op_region r) seen is.rest

op_push : (r : ℕ) (T : History) (e : Line) → op_regions r (T ++ e ∷ []) ≡ op_regions r T ++ cons_option (op_region r e) []
op_push r T e = filter_map-append (op_region r) T (e ∷ [])

-- a line of an operation, and another one
pub counted : (r : ℕ) (ks : List ℕ) (item : Item) (h : RegionState) → signs (region_note r) ks ≡ true → is_operating item.0 ≡ true → region_on item.1 ≡ Some h → op_region r (ks, item) ≡ Some h
counted r ks item h signed is on = ap (λ b. if b && is_operating item.0 then region_on item.1 else None) signed ∙ (ap (λ b. if b then region_on item.1 else None) is ∙ on)

pub uncounted : (r : ℕ) (ks : List ℕ) (item : Item) → signs (region_note r) ks ≡ true → is_operating item.0 ≡ false → op_region r (ks, item) ≡ None
uncounted r ks item signed is = ap (λ b. if b && is_operating item.0 then region_on item.1 else None) signed ∙ ap (λ b. if b then region_on item.1 else None) is

-- ---- a client finds it
there_on : (r n k : ℕ) (o : Option Operation) (seen now : History) → IsSeen now k seen → (at : IsAt r n o seen) → slice_get (op_regions r now) at.before ≡ Some at.region
there_on r n k o seen now is at = ap (λ l. slice_get l at.before) (op_more r k seen now is) ∙ get_front (op_regions r seen) (op_regions r is.rest) at.before at.region at.there

pub at_stays : (r n k : ℕ) (o : Option Operation) (seen now : History) → IsSeen now k seen → IsAt r n o seen → IsAt r n o now
at_stays r n k o seen now is at = record {
  before = at.before;
  count = at.count;
  region = at.region;
  there = there_on r n k o seen now is at;
  stands = at.stands;
}

pub finds : (r n k : ℕ) (o : Option Operation) (mine theirs now : History) (g : RegionState) → IsSeen now k mine → IsSeen now (region_note r) theirs → IsAt r n o mine → OperationStands r n g theirs
    → OneIsUnderWay o g
finds r n k o mine theirs now g m t at keeps =
    keeps.last at.before at.region o at.count (ap (λ l. slice_get l at.before) (sym (op_left r theirs now t)) ∙ there_on r n k o mine now m at) at.stands

-- ---- what is kept
pub operation_meets : (r n : ℕ) (g : RegionState) (seen now : History) → IsSeen now (region_note r) seen → OperationStands r n g seen → OperationStands r n g now
operation_meets r n g seen now is keeps = record {
  count = ap length (op_left r seen now is) ∙ keeps.count;
  last = λ i h o e at. keeps.last i h o e (ap (λ l. slice_get l i) (sym (op_left r seen now is)) ∙ at);
}

after_next : (r : ℕ) (h : RegionState) (seen now : History) (e : Line) → IsSeen now (region_note r) seen → op_region r e ≡ Some h → op_regions r (now ++ e ∷ []) ≡ op_regions r seen ++ h ∷ []
after_next r h seen now e is told = op_push r now e ∙ (ap (λ q. op_regions r now ++ cons_option q []) told ∙ ap (λ l. l ++ h ∷ []) (op_left r seen now is))

last_there : (r n : ℕ) (g h : RegionState) (seen now : History) (e : Line) → OperationStands r n g seen → IsSeen now (region_note r) seen → op_region r e ≡ Some h
    → slice_get (op_regions r (now ++ e ∷ [])) n ≡ Some h
last_there r n g h seen now e keeps is told =
    ap (λ l. slice_get l n) (after_next r h seen now e is told) ∙ (ap (slice_get (op_regions r seen ++ h ∷ [])) (sym keeps.count) ∙ get_push (op_regions r seen) h)

pub operation_next : (r n : ℕ) (g h : RegionState) (seen now : History) (e : Line) → OperationStands r n g seen → IsSeen now (region_note r) seen → op_region r e ≡ Some h
    → OperationStands r (n + 1) h (now ++ e ∷ [])
operation_next r n g h seen now e keeps is told = record {
  count = ap length (after_next r h seen now e is told) ∙ (length_push (op_regions r seen) h ∙ omega (arith, keeps.count));
  last = λ i k o count at under.
      let place : i ≡ n = omega (arith, count) in
      let same : k ≡ h = some_same (sym at ∙ (ap (slice_get (op_regions r (now ++ e ∷ []))) place ∙ last_there r n g h seen now e keeps is told)) in
      subst (OneIsUnderWay o) same under;
}

pub at_next : (r n : ℕ) (g h : RegionState) (o : Option Operation) (seen now : History) (e : Line) → OperationStands r n g seen → IsSeen now (region_note r) seen → op_region r e ≡ Some h
    → OneIsUnderWay o h → IsAt r (n + 1) o (now ++ e ∷ [])
at_next r n g h o seen now e keeps is told under = record {
  before = n;
  count = omega arith;
  region = h;
  there = last_there r n g h seen now e keeps is told;
  stands = under;
}

-- a line of another kind, which leaves the operation
pub operation_stays : (r n : ℕ) (g h : RegionState) (seen now : History) (e : Line) → OperationStands r n g seen → IsSeen now (region_note r) seen → op_region r e ≡ None
    → ((o : Option Operation) → OneIsUnderWay o g → OneIsUnderWay o h)
    → OperationStands r n h (now ++ e ∷ [])
operation_stays r n g h seen now e keeps is told leaves = record {
  count = ap length after ∙ keeps.count;
  last = λ i k o count at under. leaves o (keeps.last i k o count (ap (λ l. slice_get l i) (sym after) ∙ at) under);
}
  where
    after : op_regions r (now ++ e ∷ []) ≡ op_regions r seen
    after = op_push r now e ∙ (ap (λ q. op_regions r now ++ cons_option q []) told ∙ (append-nil (op_regions r now) ∙ op_left r seen now is))

-- ---- what others do to the region leaves the operation
pub under_way_poked : (i m : ℕ) (g : RegionState) (o : Option Operation) → OneIsUnderWay o g → OneIsUnderWay o (poked i m g)
under_way_poked i m g None w = w
under_way_poked i m g (Some o) w = record {
  written = w.written;
  hold = w.hold;
  parts = w.parts;
  within = w.within;
  fits = w.fits;
  size = length-set g.words i _ ∙ w.size;
  count = w.count;
  reads = w.reads;
  sound = λ un. absurd (cc);
  stands = λ un. absurd (cc);
}

pub under_way_checked : (g : RegionState) (o : Option Operation) → OneIsUnderWay o g → OneIsUnderWay o (checked g)
under_way_checked g None w = w
under_way_checked g (Some o) w = record {
  written = w.written;
  hold = w.hold;
  parts = w.parts;
  within = w.within;
  fits = w.fits;
  size = w.size;
  count = w.count;
  reads = w.reads;
  sound = w.sound;
  stands = w.stands;
}
