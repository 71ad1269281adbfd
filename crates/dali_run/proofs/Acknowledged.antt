-- Acknowledged transactions stand in the log of each crash image of a run, damage or not.
use Rattle.std.proofs.Common.{◌≡◌, ℕ, true, List, [], ◌∷◌, ◌++◌, Option, Some, None, take, refl, sym, subst, inl, inr, ⊎_elim}
use Rattle.std.specs.Prelude.{Contains, IfSome, is_some}
use Rattle.std.proofs.lemmas.List.Elements.{Contains-append_cases}
use Rattle.dali_lists.proofs.Members.{contains_first}
use Rattle.dali_crash.specs.Checkpoints.{Point, moment_of}
use Rattle.dali_geometry.specs.Sizes.{Sizes}
use Rattle.dali_history.proofs.Chained.{survives_or_chain, survivor_is_whole}
use Rattle.dali_record.specs.declared.records.Record.{Record}
use Rattle.dali_record.specs.Files.{Files}
use Rattle.dali_record.specs.Legal.{IsLegalFor, sizes_of as sizes_in}
use Rattle.dali_served.specs.Oks.{Transaction, StandsIn}
use Rattle.dali_served.proofs.Spans.{legal_front}
use Rattle.dali_store.specs.Store.{Files as Disk}
use Rattle.dali_store.specs.declared.store.Store.{Ghosts}
use Rattle.dali_runs.specs.Courses.{RunsAt}
use Rattle.dali_runs.specs.Run.{Bases, IsPrefix, log_in, no_image}
use Rattle.dali_runs.specs.State.{stable}
use Rattle.dali_transcripts.proofs.Lists.{none_in}
use Rattle.dali_run.specs.Headline.{KeepsIn, transactions_in}
use Rattle.dali_run.specs.Survives.{BeginsWith, Holds, IsOwn}
use Rattle.dali_run.proofs.Oks.{front_legal, stands_made, stands_of, stands_on}
use Rattle.dali_run.proofs.Surviving.{begins_then, front_of}

-- ---- transactions of a log
-- each one's Commit is in it, and before that just these calls of it
pub record AllIn (kept : List Transaction) (L : List Record) : Type 0 where
  pub each : (x : Transaction) → Contains kept x → (n : ℕ) × StandsIn L n x

none_kept : (kept : List Transaction) → ((x : Transaction) → Contains kept x → ⊥) → kept ≡ []
none_kept [] none = refl
none_kept (x ∷ kept) none = absurd (none x (contains_first x kept))

pub none_in_all : (L : List Record) → AllIn [] L
none_in_all L = record { each = λ x has. absurd (none_in [] x refl has) }

pub none_of_none : (kept : List Transaction) → AllIn kept [] → kept ≡ []
none_of_none kept all = none_kept kept (λ x has. let at = all.each x has in absurd (cc (at.1.commit)))

pub both_in : (ts us : List Transaction) (L : List Record) → AllIn ts L → AllIn us L → AllIn (ts ++ us) L
both_in ts us L one two = record { each = λ x has. ⊎_elim (λ first. one.each x first) (λ later. two.each x later) (Contains-append_cases ts us x has) }

pub in_more : (ts : List Transaction) (L M : List Record) → BeginsWith L M → AllIn ts L → AllIn ts M
in_more ts L M more all = record { each = λ x has. let at = all.each x has in subst (λ (l : List Record). (n : ℕ) × StandsIn l n x) (sym more.1) (at.0, stands_on L more.0 at.0 x at.1) }

-- what a legal log has committed
of_log : (s : Sizes) (L : List Record) → IsLegalFor s L → AllIn (transactions_in L) L
of_log s L legal = record { each = λ x has. stands_of s L x legal has }

-- in a legal log that begins so it has made just these calls
pub made_in : (kept : List Transaction) (s : Sizes) (base L : List Record) → IsLegalFor s L → BeginsWith base L → AllIn kept base → KeepsIn kept L
made_in kept s base L legal begins all = record {
  made = λ x has. let at = (in_more kept base L begins all).each x has in stands_made s L at.0 x legal at.1;
  survive = λ x has. let at = (in_more kept base L begins all).each x has in survives_or_chain L x.number (stands_made s L at.0 x legal at.1).0;
  not_both = λ t survives deleted. (survivor_is_whole L t survives).1 deleted;
}

-- so it is in each crash image of a run, damage or not
pub prefix_keeps : (kept : List Transaction) (base : List Record) (p : Point) (E : Files) (bases : Bases) (before : List Record) → AllIn kept base → BeginsWith base (take (stable p.core) p.log)
    → RunsAt bases before no_image (moment_of p) → IsPrefix p.log (stable p.core) E → KeepsIn kept (log_in E)
prefix_keeps kept base p E bases before all flushed run prefix =
    let s = p.core.system.sizes in
    let legal : IsLegalFor s p.log = subst (IsLegalFor s) (sym run.log) run.run.runs.log.legal in
    let front : IsLegalFor s (log_in E) = subst (IsLegalFor s) (sym prefix.log) (legal_front s p.log prefix.count legal) in
    let begins : BeginsWith base (log_in E) =
    subst (BeginsWith base) (sym prefix.log) (begins_then base (take (stable p.core) p.log) (take prefix.count p.log) flushed (front_of (stable p.core) prefix.count p.log prefix.flushed)) in
    made_in kept s base (log_in E) front begins all

-- ---- the handed-in store
module _ {V : Type 0} (g : Ghosts V) (reads_now : (s : V) → IfSome (g.told s) (λ fs. g.may_leave s fs)) where
  -- what the handed-in store has committed: the files that it reads are such as a crash leaves
  pub of_base : (base : List Record) (s : V) → IsOwn g base s → AllIn (transactions_in base) base
  of_base base s own = by_told (g.told s) own.0 (reads_now s)
    where
      by_case : (fs : Disk) → Holds base fs → AllIn (transactions_in base) base
      by_case fs (inl none) = subst (λ (l : List Record). AllIn (transactions_in l) l) (sym none.1) (none_in_all [])
      by_case fs (inr has) = of_log (sizes_in (log_in has.files)) base (front_legal (sizes_in (log_in has.files)) base (log_in has.files) has.begins has.history.legal)

      by_told : (o : Option Disk) → is_some o ≡ true → IfSome o (λ fs. g.may_leave s fs) → AllIn (transactions_in base) base
      by_told None is may = absurd cc
      by_told (Some fs) is may = by_case fs (own.1 fs may)
