-- What was read of a log, and what waits behind it.
use Rattle.std.proofs.Common.{◌≡◌, inl, inr, ℕ, ◌+◌, ◌≤◌, ◌<◌, Bool, true, false, List, [], ◌∷◌, ◌++◌, length, drop, refl, sym, ◌∙◌, ap, subst, arith, append_assoc, eq-eqb}
use Rattle.std.specs.Prelude.{◌==◌}
use Rattle.dali_record.specs.declared.records.Record.{Record}
use Rattle.dali_record.specs.declared.records.Record.TheVariants.{Format}
use Rattle.dali_record.specs.Spelling.{spelling, CanBeSpelled, Begins}
use Rattle.dali_log.specs.declared.finding.Found.{Found}
use Rattle.dali_log.specs.declared.finding.Found.TheVariants.{Batch, End}
use Rattle.dali_log.specs.Finding.{BatchAt, IsBad, IsFound}
use Rattle.dali_log.specs.Log.{body_bytes, records_in, BadAt, BadFrom, HasNoFormat, IsFront, IsRun, NoRecordAt, TailOf}
use Rattle.dali_log.specs.declared.error.BatchError.{BatchError}
use Rattle.dali_log.specs.declared.error.BatchError.TheVariants.{Fault, BadLog, OutOfMemory}
use Rattle.dali_log.proofs.Bodies.{ReadTo, none_read}
use Rattle.dali_log.proofs.Fronts.{open_of_batch, first_front, first_bad, no_format, bad_of_first, run_push, records_push, log_from_place, bad_from_place}
use Rattle.dali_runs.specs.State.{SystemState}
use Rattle.dali_core.specs.Vault.Vaulted.{Vaulted, with_store}
use Rattle.dali_verify.specs.Errors.{read_as}
use Rattle.dali_verify.specs.Verified.{Spell, IsInFile, IsWholeLog}
use Rattle.dali_verify.specs.declared.error.VerifyError.TheVariants as errors

-- ---- a log of fewer than two bytes
abbrev pub ShortAs : Bool → List ℕ → Type 0
ShortAs short log = (short ≡ true → length log < 2) × (short ≡ false → 2 ≤ length log)

pub long_found : (log : List ℕ) (found : Found) → IsFound log 1 found → ShortAs false log
long_found log (Batch body next) found = (λ no. absurd (cc), λ _. let open_there = open_of_batch log 1 body found.0 in omega (arith, open_there.0))
long_found log End found = (λ no. absurd (cc), λ _. omega (arith, found.0))

pub short_bad : (log : List ℕ) (at : ℕ) → IsBad log 1 at → ShortAs (at == 1) log
short_bad log at (inl none) = (λ _. omega (arith, none.0), λ other. let same : (at == 1) ≡ true = eq-eqb at 1 none.1 in absurd (cc))
short_bad log at (inr none) = (λ is. absurd (no_one at none.1 is), λ _. omega (arith, none.0.gate.0))
  where
    no_one : (n : ℕ) → n ≡ 1 + 1 → (n == 1) ≡ true → ⊥
    no_one n two is = let other : (2 == 1) ≡ true = sym (ap (λ (m : ℕ). m == 1) two) ∙ is in cc

-- ---- the first batch
pub same_place : (at bad : ℕ) → errors.BadLog at ≡ errors.BadLog bad → at ≡ bad
same_place at bad e = cc

pub first_stands : (log body : List ℕ) (next index heap : ℕ) → BatchAt log 0 body → next ≡ 0 + 5 + length body → CanBeSpelled (Format index heap) → body ≡ spelling (Format index heap) → IsFront log ((Format index heap ∷ []) ∷ []) next
first_stands log body next index heap found behind can spelled = subst (IsFront log ((Format index heap ∷ []) ∷ [])) (sym behind) (first_front log body index heap found can spelled)

pub no_first : (log body : List ℕ) (bad : ℕ) → BatchAt log 0 body → HasNoFormat body → errors.BadLog 5 ≡ errors.BadLog bad → BadAt log bad
no_first log body bad found none e = subst (BadAt log) (same_place 5 bad e) (bad_of_first log 5 (no_format log body found none))

pub bad_first : (log : List ℕ) (at bad : ℕ) → 2 ≤ length log → IsBad log 0 at → errors.BadLog at ≡ errors.BadLog bad → BadAt log bad
bad_first log at bad long is e = subst (BadAt log) (same_place at bad e) (bad_of_first log at (first_bad log at long is))

-- ---- records in a row
pub bad_here : (bytes all : List ℕ) (at found place bad : ℕ) (old new : List Record) → all ≡ bytes → ReadTo bytes (drop at all) old new → found ≡ at → found ≤ length all → 0 < length (drop at all)
    → ((r : Record) → Begins (drop at all) r → ⊥) → errors.BadLog (place + found) ≡ errors.BadLog bad → (within : ℕ) × NoRecordAt bytes within × (bad ≡ place + within)
bad_here bytes all at found place bad old new same read is inside some none e =
    let read_there = subst (λ (l : List ℕ). ReadTo bytes (drop at l) old new) same read in
    let none_there = subst (λ (l : List ℕ). (r : Record) → Begins (drop at l) r → ⊥) same none in (
      at,
      none_read bytes old new at read_there (omega (arith, is, inside, ap length same)) (omega (arith, some, ap (λ (l : List ℕ). length (drop at l)) same)) none_there,
      sym (same_place (place + found) bad e) ∙ ap (λ (n : ℕ). place + n) is,
    )

-- ---- the batches behind the first one
pub batch_bad : (e : BatchError) (bad : ℕ) → read_as e ≡ errors.BadLog bad → e ≡ BadLog bad
batch_bad Fault bad e = absurd (cc)
batch_bad (BadLog at) bad e = ap BadLog (same_place at bad e)
batch_bad OutOfMemory bad e = absurd (cc)

pub tail_bad : (log : List ℕ) (p q bad : ℕ) (L : List (List Record)) → IsRun log p L q → IsBad log q bad → BadFrom log p bad
tail_bad log p q bad L run is = (L, record { place = q; good = run; bad = inl is })

pub tail_body_bad : (log : List ℕ) (p q bad : ℕ) (L : List (List Record)) (body bytes : List ℕ) → IsRun log p L q → BatchAt log q body → bytes ≡ body
    → (within : ℕ) × NoRecordAt bytes within × (bad ≡ q + 5 + within) → BadFrom log p bad
tail_body_bad log p q bad L body bytes run found same none =
    (L, record { place = q; good = run; bad = inr (body, none.0, found, subst (λ (l : List ℕ). NoRecordAt l none.0) same none.1, none.2) })

pub run_more : (log : List ℕ) (p q next : ℕ) (L : List (List Record)) (body bytes : List ℕ) (old mid new : List Record) → IsRun log p L q → BatchAt log q body → next ≡ q + 5 + length body → bytes ≡ body
    → (K : List Record) × Spell bytes K × (new ≡ mid ++ K) → mid ≡ old ++ records_in L → (M : List (List Record)) × IsRun log p M next × (new ≡ old ++ records_in M)
run_more log p q next L body bytes old mid new run found behind same read so_far =
    let K = read.0 in (
      L ++ K ∷ [],
      subst (IsRun log p (L ++ K ∷ [])) (sym behind) (run_push log p L q body K run found (sym same ∙ read.1.1) read.1.0),
      read.2 ∙ ap (λ (l : List Record). l ++ K) so_far ∙ append_assoc old (records_in L) K ∙ ap (λ (l : List Record). old ++ l) (records_push L K),
    )

pub same_vault : {V : Type 0} (u v w : Vaulted V) → v ≡ with_store u v.store → w ≡ with_store v w.store → w ≡ with_store u w.store
same_vault u v w one two = two ∙ ap (λ x. with_store x w.store) one

-- ---- the file
pub file_bad : (log : List ℕ) (index heap next bad : ℕ) → IsFront log ((Format index heap ∷ []) ∷ []) next → BadFrom log next bad → BadAt log bad
file_bad log index heap next bad front is = bad_from_place log ((Format index heap ∷ []) ∷ []) is.0 next bad front (index, heap, [], refl) is.1

pub file_read : (log : List ℕ) (index heap next e : ℕ) (M : List (List Record)) (pushed new : List Record) → IsFront log ((Format index heap ∷ []) ∷ []) next → pushed ≡ Format index heap ∷ []
    → TailOf log next M e → new ≡ pushed ++ records_in M → IsInFile log new
file_read log index heap next e M pushed new front first tail is =
    inr ((Format index heap ∷ []) ∷ M, e, log_from_place log ((Format index heap ∷ []) ∷ []) M next e front (index, heap, [], refl) tail, is ∙ ap (λ (l : List Record). l ++ records_in M) first)

pub whole : (log : List ℕ) (y : SystemState) (old new : List Record) → IsInFile log old → (F : List Record) × Spell (body_bytes (drop y.taken y.since)) F × (new ≡ old ++ F) → IsWholeLog log y new
whole log y old new file more = record { flushed = old; waiting = more.0; file = file; spelled = more.1; all = more.2 }
