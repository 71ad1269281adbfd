-- Reading the records of a body, one after another.
use Rattle.std.proofs.Common.{◌≡◌, ◌⊎◌, inl, inr, ℕ, ◌≤◌, ◌<◌, true, false, List, [], ◌∷◌, ◌++◌, length, drop, refl, sym, ◌∙◌, ap, subst, arith, append_assoc, length-append, length-drop}
use Rattle.std.specs.Prelude.{Result, Err, IfErr, IsErrOf, ◌↔◌}
use Rattle.std.proofs.lemmas.List.{append-nil, flat_map_more}
use Rattle.dali_record.specs.declared.records.Record.{Record}
use Rattle.dali_record.specs.declared.records.Record.TheVariants.{Format}
use Rattle.dali_record.specs.declared.error.DecodeError.{DecodeError}
use Rattle.dali_record.specs.declared.error.DecodeError.TheVariants.{BadRecord, OutOfMemory}
use Rattle.dali_record.specs.Spelling.{spelling, CanBeSpelled, Begins, has_list}
use Rattle.dali_record.proofs.Spelled.{one_begins}
use Rattle.dali_log.specs.Log.{AreSpelled, body_bytes, NoRecordAt}

-- ---- the one record Format
begins_format : (bytes : List ℕ) (index heap : ℕ) → CanBeSpelled (Format index heap) → bytes ≡ spelling (Format index heap) → Begins bytes (Format index heap)
begins_format bytes index heap can e = (can, [], e ∙ sym (append-nil (spelling (Format index heap))))

-- no record with a list is a Format
no_list : (bytes : List ℕ) (index heap : ℕ) → CanBeSpelled (Format index heap) → bytes ≡ spelling (Format index heap) → (r : Record) × Begins bytes r × (has_list r ≡ true) → ⊥
no_list bytes index heap can e found =
    let same = one_begins found.0 (Format index heap) found.1.1 [] found.1.0 can (sym found.1.2 ∙ e ∙ sym (append-nil (spelling (Format index heap)))) in
    let has : true ≡ false = sym found.2 ∙ ap has_list same.0 in
    cc

-- where no record was read, none is spelled
pub refused : (bytes : List ℕ) (at : ℕ) (e : DecodeError) → (IsErrOf {T = Record} (Err e) (BadRecord at) ↔ ((r : Record) → Begins bytes r → ⊥)) → (IsErrOf {T = Record} (Err e) OutOfMemory → (r : Record) × Begins bytes r × (has_list r ≡ true))
    → (e ≡ BadRecord at) ⊎ (e ≡ OutOfMemory) → (index heap : ℕ) → CanBeSpelled (Format index heap) → bytes ≡ spelling (Format index heap) → ⊥
refused bytes at e bad memory (inl is) index heap can same = bad.0 (ap Err is) (Format index heap) (begins_format bytes index heap can same)
refused bytes at e bad memory (inr is) index heap can same = no_list bytes index heap can same (memory (ap Err is))

-- the record that was read is the one that is spelled, and nothing is left
pub one_format : (bytes rest : List ℕ) (r : Record) → CanBeSpelled r → bytes ≡ spelling r ++ rest → (index heap : ℕ) → CanBeSpelled (Format index heap) → bytes ≡ spelling (Format index heap) → (r ≡ Format index heap) × (rest ≡ [])
one_format bytes rest r is e index heap can same = one_begins r (Format index heap) rest [] is can (sym e ∙ same ∙ sym (append-nil (spelling (Format index heap))))

-- ---- all records of a body
pub record ReadTo (body rest : List ℕ) (old new : List Record) : Type 0 where
  pub past : List Record
  pub each : AreSpelled past
  pub whole : body ≡ body_bytes past ++ rest
  pub taken : new ≡ old ++ past

pub nothing_read : (body : List ℕ) (old : List Record) → ReadTo body body old old
nothing_read body old = record { past = []; each = tt; whole = refl; taken = sym (append-nil old) }

pub spelled_push : (past : List Record) (r : Record) → AreSpelled past → CanBeSpelled r → AreSpelled (past ++ r ∷ [])
spelled_push [] r all is = (is, tt)
spelled_push (p ∷ past) r all is = (all.0, spelled_push past r all.1 is)

pub bytes_push : (past : List Record) (r : Record) → body_bytes past ++ spelling r ≡ body_bytes (past ++ r ∷ [])
bytes_push past r = flat_map_more spelling [] past r

pub one_read : (body rest left : List ℕ) (old mid new : List Record) (r : Record) → ReadTo body rest old mid → CanBeSpelled r → rest ≡ spelling r ++ left → new ≡ mid ++ r ∷ [] → ReadTo body left old new
one_read body rest left old mid new r read is e pushed = record {
  past = read.past ++ r ∷ [];
  each = spelled_push read.past r read.each is;
  whole = read.whole ∙ ap (λ (l : List ℕ). body_bytes read.past ++ l) e ∙ sym (append_assoc (body_bytes read.past) (spelling r) left) ∙ ap (λ (l : List ℕ). l ++ left) (bytes_push read.past r);
  taken = pushed ∙ ap (λ (l : List Record). l ++ r ∷ []) read.taken ∙ append_assoc old read.past (r ∷ []);
}

pub all_read : (body rest : List ℕ) (old new : List Record) → ReadTo body rest old new → length rest ≡ 0 → (rs : List Record) × AreSpelled rs × (body ≡ body_bytes rs) × (new ≡ old ++ rs)
all_read body [] old new read none = (read.past, read.each, read.whole ∙ append-nil (body_bytes read.past), read.taken)
all_read body (b ∷ rest) old new read none = absurd (omega (arith, none))

-- a record that isn't there
pub none_read : (body : List ℕ) (old new : List Record) (at : ℕ) → ReadTo body (drop at body) old new → at ≤ length body → 0 < length (drop at body) → ((r : Record) → Begins (drop at body) r → ⊥) → NoRecordAt body at
none_read body old new at read inside some none =
    let place : at ≡ length (body_bytes read.past) = omega (arith, ap length read.whole, length-append (body_bytes read.past) (drop at body), length-drop at body, inside) in
    (read.past, drop at body, read.each, read.whole, place, some, none)

-- the one place that a bad record names
pub bad_at : {X : Type 0} (r : Result X DecodeError) (e : DecodeError) (at place : ℕ) → r ≡ Err e → e ≡ BadRecord place → IfErr r (λ d. (d ≡ BadRecord at) ⊎ (d ≡ OutOfMemory)) → IsErrOf r (BadRecord at)
bad_at {X} r e at place is bad errors = by_sum (subst (λ (q : Result X DecodeError). IfErr q (λ d. (d ≡ BadRecord at) ⊎ (d ≡ OutOfMemory))) is errors)
  where
    by_sum : (e ≡ BadRecord at) ⊎ (e ≡ OutOfMemory) → IsErrOf r (BadRecord at)
    by_sum (inl same) = is ∙ ap Err same
    by_sum (inr other) = absurd cc
