-- Calls one after another that leave less of what a crash may leave.
use Rattle.std.specs.Prelude.{Option, IfSome, is_some}
use Rattle.std.proofs.Common.{◌≡◌, ◌≤◌, ℕ, ◌+◌, ◌-◌, ◌<◌, ◌∙◌, ap}
use Rattle.dali_store.specs.Store.{Files}
use Rattle.dali_files.specs.Files.{Contents, Elapses}
use Rattle.dali_files.specs.declared.key.FileKey.{FileKey}
use Rattle.dali_segments.specs.Segments.{told_of, LeavesWhere}
use Rattle.dali_segments.specs.Extents.{StopsIn, IsFixed}
use Rattle.dali_segments.specs.Quiet.{IsQuiet}
use Rattle.dali_segments.specs.Clears.{Clears}
use Rattle.dali_segments.specs.Laws.{tells_law, time_law, leaves_more}
use Rattle.dali_segments.specs.Less.{LeavesLess}
use Rattle.dali_segments.proofs.Extents.{less_leaves, less_time, cleared_told, cleared_crash, cleared_time}

-- a call on the files that leaves less
pub less_files : (size : ℕ) (old new : Option Contents) (a b : Contents → Type 0) (ma mb : ℕ) (pa pb : ℕ → Contents → Type 0) → is_some new ≡ is_some old → ((d : Contents) → b d → a d) → Elapses ma mb pa pb b
    → LeavesLess (told_of size old) (told_of size new) (LeavesWhere size old a) (LeavesWhere size new b) ma mb (λ t. LeavesWhere size old (pa t)) (λ t. LeavesWhere size new (pb t))
less_files size old new a b ma mb pa pb tells fewer time = record {
  tells = tells_law size old new tells;
  crash = less_leaves size old new a b tells fewer;
  time = time_law size ma mb old new pa pb b tells time;
}

pub less_quiet : (size : ℕ) (old new : Option Contents) (a b : Contents → Type 0) (ga gb : FileKey → Type 0) (ma mb : ℕ) (pa pb : ℕ → Contents → Type 0) → IsQuiet old new a b ga gb ma mb pa pb
    → LeavesLess (told_of size old) (told_of size new) (LeavesWhere size old a) (LeavesWhere size new b) ma mb (λ t. LeavesWhere size old (pa t)) (λ t. LeavesWhere size new (pb t))
less_quiet size old new a b ga gb ma mb pa pb quiet =
    less_files size old new a b ma mb pa pb (ap (λ (t : Option Contents). is_some t) quiet.told) quiet.crash quiet.time

pub less_clears : (size last dropped : ℕ) → 64 ≤ size → last < 4095 → dropped ≤ last - 1 → (mid new : Option Contents) (b c : Contents → Type 0) (gb gc : FileKey → Type 0) (mm mn : ℕ) (pm pn : ℕ → Contents → Type 0)
    → IfSome mid (λ fs. IsFixed last b gb fs × StopsIn size last dropped fs) → Clears (last + 1) 4095 mid new b c gb gc mm mn pm pn → IfSome mid (λ fs. b fs) → ((t : ℕ) (x : Contents) → t ≤ mm → b x → pm t x)
    → LeavesLess (told_of size mid) (told_of size new) (LeavesWhere size mid b) (LeavesWhere size new c) mm mn (λ t. LeavesWhere size mid (pm t)) (λ t. LeavesWhere size new (pn t))
less_clears size last dropped large below under mid new b c gb gc mm mn pm pn fixed clears now counts = record {
  tells = ap (λ (t : Option Files). is_some t) (cleared_told size last dropped large below under mid new b c gb gc mm mn pm pn fixed clears);
  crash = cleared_crash size last dropped large below under mid new b c gb gc mm mn pm pn fixed clears now;
  time = cleared_time size last dropped large below under mid new b c gb gc mm mn pm pn fixed clears now counts;
}

-- one after another
pub less_on : (size : ℕ) (old mid new : Option Contents) (a b c : Contents → Type 0) (ma mb mc : ℕ) (pa pb pc : ℕ → Contents → Type 0) → ((t : ℕ) (x : Contents) → t ≤ ma → a x → pa t x)
    → LeavesLess (told_of size old) (told_of size mid) (LeavesWhere size old a) (LeavesWhere size mid b) ma mb (λ t. LeavesWhere size old (pa t)) (λ t. LeavesWhere size mid (pb t))
    → LeavesLess (told_of size mid) (told_of size new) (LeavesWhere size mid b) (LeavesWhere size new c) mb mc (λ t. LeavesWhere size mid (pb t)) (λ t. LeavesWhere size new (pc t))
    → LeavesLess (told_of size old) (told_of size new) (LeavesWhere size old a) (LeavesWhere size new c) ma mc (λ t. LeavesWhere size old (pa t)) (λ t. LeavesWhere size new (pc t))
less_on size old mid new a b c ma mb mc pa pb pc counts one two = record {
  tells = two.tells ∙ one.tells;
  crash = λ x left. one.crash x (two.crash x left);
  time = less_time (LeavesWhere size old a) (LeavesWhere size mid b) (LeavesWhere size new c) ma mb mc
      (λ t. LeavesWhere size old (pa t)) (λ t. LeavesWhere size mid (pb t)) (λ t. LeavesWhere size new (pc t)) one.crash
      (λ t x le left. leaves_more size old a (pa t) x (λ d out. counts t d le out) left) one.time two.time;
}
