-- What a call makes of the fields of a redo.
use Rattle.std.proofs.Common.{◌≡◌, ℕ, Bool, true, false, cond, List, [], ◌∷◌, ◌++◌, length, map, fold, Option, Some, None, refl, ap, sym, subst, ◌∙◌}
use Rattle.std.specs.Prelude.{not, ◌&&◌, ◌||◌, ◌==◌, is_some}
use Rattle.std.specs.Option.{option_map_or}
use Rattle.std.specs.Ordering.{nat_cmp}
use Rattle.std.specs.FinMap.{empty, get, get-empty}
use Rattle.std.proofs.Math.ListN.{length-set}
use Rattle.dali_lists.proofs.Lists.{length_of_halves}
use Rattle.dali_geometry.specs.Sizes.{Sizes}
use Rattle.dali_geometry.specs.Places.{regions}
use Rattle.dali_access.specs.Heap.Cells as cell
use Rattle.dali_access.specs.Index.Entries as entry
use Rattle.dali_att.specs.declared.state.State.{State}
use Rattle.dali_att.specs.declared.state.State.TheVariants.{Live, Dead, Cleaning, Committed}
use Rattle.dali_att.specs.Table.{Row, Table, state_at, undos_at}
use Rattle.dali_record.specs.declared.operations.Block.{Block}
use Rattle.dali_record.specs.declared.operations.Pending.{Pending}
use Rattle.dali_record.specs.declared.operations.Undo.{Undo}
use Rattle.dali_record.specs.declared.records.Record.{Record}
use Rattle.dali_record.specs.declared.records.Record.TheVariants.{Format, Begin, Forward, Done, Commit, Ended, Solo, AuditBegin, AuditClean, AuditFail, Restarted, Back}
use Rattle.dali_record.specs.Files.{is_restarted}
use Rattle.dali_record.specs.Log.{Touch, touch_of, undo_added, drop_last}
use Rattle.dali_record.specs.Settled.{redo, redo_touch}
use Rattle.dali_record.specs.Spelling.{MayBeUndo}
use Rattle.dali_history.specs.Recovered.{free_word, freed}
use Rattle.dali_resume.specs.Laws.{undos_in}
use Rattle.dali_resume.specs.Tests.{Known, Status, Idle, Running, Waiting, known_next, next_behind, status_next}
use Rattle.dali_redo.specs.Redoing.{Redoing, Knows, AreUndos, status_by, status_at, is_left, performed, performed_in, either, is_of, MayUndo}
use Rattle.dali_redo.specs.Steps.{Advances, Applies, Skips}
use Rattle.dali_redo.specs.Tables.{row_held, Holds}
use Rattle.dali_redo.specs.Laws.{SpelledUndo}
use Rattle.dali_redo.proofs.Rolls.{left_row, by_rows, none_performed}
use Rattle.dali_redo.proofs.Statuses.{still, idle_behind}

no_rows : (t : ℕ) → get (empty {X = Row Pending} {R = nat_cmp}) t ≡ None
no_rows t = get-empty {X = Row Pending} nat_cmp t

pub knows_next : (x y : Redoing) (r : Record) → Advances x.table y.table r → y.next ≡ next_behind x.next r → (k : Known) → Knows x k → Knows y (known_next k r)
knows_next x y r a e k w = record {
  next = e ∙ ap (λ n. next_behind n r) w.next;
  statuses = λ t. a t ∙ ap (λ z. status_next t z r) (w.statuses t);
}

-- ---- a record that is applied
pub applies : (x y : Redoing) (r : Record) → y.sizes ≡ x.sizes → y.image ≡ redo x.image r → Advances x.table y.table r → y.left ≡ cond (is_restarted r) empty x.left → y.next ≡ next_behind x.next r → Applies x y r
applies x y r sizes image a left next = record {
  sizes = sizes;
  image = image;
  knows = knows_next x y r a next;
  left = λ t. ap (λ o. is_some (state_at o t)) left ∙ left_is (is_restarted r) t;
  performed = λ t h. by_test (is_restarted r) left t h;
}
  where
    left_is : (b : Bool) (t : ℕ) → is_some (state_at (cond b empty x.left) t) ≡ (not b && is_left x t)
    left_is true t = ap left_row (no_rows t)
    left_is false t = refl

    by_test : (b : Bool) → y.left ≡ cond b empty x.left → (t : ℕ) → is_left y t ≡ true → performed y t ≡ performed x t
    by_test true e t h = absurd (let none : is_left y t ≡ false = ap (λ o. is_some (state_at o t)) e ∙ left_is true t in let bad : false ≡ true = sym none ∙ h in cc)
    by_test false e t h =
        let old : is_left x t ≡ true = sym (ap (λ o. is_some (state_at o t)) e) ∙ h in
        ap (λ b. either b (undos_at y.left t) (undos_in (status_at y.table t))) h
        ∙ (ap (λ o. undos_at o t) e ∙ sym (ap (λ b. either b (undos_at x.left t) (undos_in (status_at x.table t))) old))

-- ---- one that is skipped
pub skips : (x y : Redoing) (r : Record) → y.sizes ≡ x.sizes → y.image ≡ x.image → Advances x.table y.table r → Holds x.left x.table r y.left → y.next ≡ next_behind x.next r → Skips x y r
skips x y r sizes image a holds next = record {
  sizes = sizes;
  image = image;
  knows = knows_next x y r a next;
  left = λ t. ap left_row (holds t) ∙ left_is (is_restarted r) t (is_of t r) (get x.left t);
  performed = λ h t. ap (λ o. by_rows o (status_at y.table t)) (holds t ∙ ap (λ b. cond b None (row_held x.table (is_of t r) t (get x.left t))) h) ∙ same h t (is_of t r) refl (get x.left t);
}
  where
    left_is : (b : Bool) (t : ℕ) (c : Bool) (o : Option (Row Pending)) → left_row (cond b None (row_held x.table c t o)) ≡ (not b && (left_row o || c))
    left_is true t c o = refl
    left_is false t true None = refl
    left_is false t false None = refl
    left_is false t c (Some row) = refl

    same : is_restarted r ≡ false → (t : ℕ) (c : Bool) → is_of t r ≡ c → (o : Option (Row Pending)) → by_rows (row_held x.table c t o) (status_at y.table t) ≡ by_rows o (status_at x.table t)
    same h t true e None = refl
    same h t false e None = ap undos_in (a t ∙ still t (status_at x.table t) r h e)
    same h t c e (Some row) = refl

-- ---- the undos have a spelling
dropped : (us : List Pending) → AreUndos us → AreUndos (drop_last us)
dropped [] h = tt
dropped (p ∷ []) h = tt
dropped (p ∷ q ∷ us) h = (h.0, dropped (q ∷ us) h.1)

longer : (us vs : List Pending) → AreUndos us → AreUndos vs → AreUndos (us ++ vs)
longer [] vs h g = g
longer (p ∷ us) vs h g = (h.0, longer us vs h.1 g)

added : (b : Block) (o : Option Undo) → MayBeUndo o → AreUndos (undo_added b o)
added b None h = tt
added b (Some u) h = (h, tt)

idle_next : (t : ℕ) (r : Record) → AreUndos (undos_in (status_next t Idle r))
idle_next t (Begin u) = by_test (u == t)
  where
    by_test : (b : Bool) → AreUndos (undos_in (cond b (Running []) Idle))
    by_test true = tt
    by_test false = tt
idle_next t (Format i j) = tt
idle_next t _ = tt

running_next : (t : ℕ) (us : List Pending) (r : Record) → MayUndo r → AreUndos us → AreUndos (undos_in (status_next t (Running us) r))
running_next t us (Forward u b) c h = by_test (u == t)
  where
    by_test : (z : Bool) → AreUndos (cond z (us ++ undo_added b b.undo) us)
    by_test true = longer us (undo_added b b.undo) h (added b b.undo c)
    by_test false = h
running_next t us (Back u b) c h = by_test (u == t)
  where
    by_test : (z : Bool) → AreUndos (cond z (drop_last us) us)
    by_test true = dropped us h
    by_test false = h
running_next t us (Commit u) c h = by_test (u == t)
  where
    by_test : (z : Bool) → AreUndos (undos_in (cond z Waiting (Running us)))
    by_test true = tt
    by_test false = h
running_next t us (Ended u) c h = by_test (u == t)
  where
    by_test : (z : Bool) → AreUndos (undos_in (cond z Idle (Running us)))
    by_test true = tt
    by_test false = h
running_next t us (Restarted rs ds) c h = tt
running_next t us _ c h = h

waiting_next : (t : ℕ) (r : Record) → AreUndos (undos_in (status_next t Waiting r))
waiting_next t (Ended u) = by_test (u == t)
  where
    by_test : (b : Bool) → AreUndos (undos_in (cond b Idle Waiting))
    by_test true = tt
    by_test false = tt
waiting_next t (Format i j) = tt
waiting_next t _ = tt

pub undos_next : (t : ℕ) (z : Status) (r : Record) → MayUndo r → AreUndos (undos_in z) → AreUndos (undos_in (status_next t z r))
undos_next t Idle r c h = idle_next t r
undos_next t (Running us) r c h = running_next t us r c h
undos_next t Waiting r c h = waiting_next t r

plain_undos : (m l : Table Pending) (t : ℕ) → is_some (state_at l t) ≡ false → AreUndos (performed_in l m t) → AreUndos (undos_in (status_at m t))
plain_undos m l t e h = subst (λ b. AreUndos (either b (undos_at l t) (undos_in (status_at m t)))) e h

pub applied_undos : (m n l k : Table Pending) (r : Record) → MayUndo r → Advances m n r → k ≡ cond (is_restarted r) empty l → ((t : ℕ) → AreUndos (performed_in l m t)) → (t : ℕ) → AreUndos (performed_in k n t)
applied_undos m n l k r c a e h t = by_left (is_some (state_at k t)) refl (is_restarted r) refl e
  where
    by_left : (b : Bool) → is_some (state_at k t) ≡ b → (q : Bool) → is_restarted r ≡ q → k ≡ cond q empty l → AreUndos (either b (undos_at k t) (undos_in (status_at n t)))
    by_left b f true g i = by_empty b (sym f ∙ (ap (λ o. is_some (state_at o t)) i ∙ ap left_row (no_rows t)))
      where
        idle : (q : Record) → is_restarted q ≡ true → (z : Status) → status_next t z q ≡ Idle
        idle (Restarted rs ds) j z = sym (idle_behind t z rs ds)
        idle (Format i' j') j z = absurd (cc)
        idle (Begin u) j z = absurd (cc)
        idle (Forward u b') j z = absurd (cc)
        idle (Done u d a') j z = absurd (cc)
        idle (Commit u) j z = absurd (cc)
        idle (Ended u) j z = absurd (cc)
        idle (Solo u p b') j z = absurd (cc)
        idle AuditBegin j z = absurd (cc)
        idle (AuditClean b') j z = absurd (cc)
        idle (AuditFail b' rs) j z = absurd (cc)
        idle (Back u b') j z = absurd (cc)

        by_empty : (b : Bool) → b ≡ false → AreUndos (either b (undos_at k t) (undos_in (status_at n t)))
        by_empty true j = absurd (cc)
        by_empty false j = subst (λ z. AreUndos (undos_in z)) (sym (a t ∙ idle r g (status_at m t))) tt
    by_left true f false g i =
        let old : is_some (state_at l t) ≡ true = sym (ap (λ o. is_some (state_at o t)) i) ∙ f in
        subst (λ o. AreUndos (undos_at o t)) (sym i) (subst (λ b. AreUndos (either b (undos_at l t) (undos_in (status_at m t)))) old (h t))
    by_left false f false g i =
        let old : is_some (state_at l t) ≡ false = sym (ap (λ o. is_some (state_at o t)) i) ∙ f in
        subst (λ z. AreUndos (undos_in z)) (sym (a t)) (undos_next t (status_at m t) r c (plain_undos m l t old (h t)))

pub skipped_undos : (m n l k : Table Pending) (r : Record) → MayUndo r → Advances m n r → Holds l m r k → ((t : ℕ) → AreUndos (performed_in l m t)) → (t : ℕ) → AreUndos (performed_in k n t)
skipped_undos m n l k r c a e h t = subst (λ o. AreUndos (by_rows o (status_at n t))) (sym (e t)) (by_test (is_restarted r) refl (is_of t r) (get l t) (h t))
  where
    next : AreUndos (undos_in (status_at m t)) → AreUndos (undos_in (status_at n t))
    next g = subst (λ z. AreUndos (undos_in z)) (sym (a t)) (undos_next t (status_at m t) r c g)

    restarted : is_restarted r ≡ true → AreUndos (undos_in (status_at n t))
    restarted g = subst (λ z. AreUndos (undos_in z)) (sym (a t)) (by_record r g (status_at m t))
      where
        by_record : (q : Record) → is_restarted q ≡ true → (z : Status) → AreUndos (undos_in (status_next t z q))
        by_record (Restarted rs ds) j Idle = tt
        by_record (Restarted rs ds) j (Running us) = tt
        by_record (Restarted rs ds) j Waiting = tt
        by_record (Format i' j') j z = absurd (cc)
        by_record (Begin u) j z = absurd (cc)
        by_record (Forward u b') j z = absurd (cc)
        by_record (Done u d a') j z = absurd (cc)
        by_record (Commit u) j z = absurd (cc)
        by_record (Ended u) j z = absurd (cc)
        by_record (Solo u p b') j z = absurd (cc)
        by_record AuditBegin j z = absurd (cc)
        by_record (AuditClean b') j z = absurd (cc)
        by_record (AuditFail b' rs) j z = absurd (cc)
        by_record (Back u b') j z = absurd (cc)

    by_test : (q : Bool) → is_restarted r ≡ q → (b : Bool) (o : Option (Row Pending)) → AreUndos (by_rows o (status_at m t)) → AreUndos (by_rows (cond q None (row_held m b t o)) (status_at n t))
    by_test true g b o i = restarted g
    by_test false g true None i = i
    by_test false g false None i = next i
    by_test false g b (Some row) i = i

-- ---- the regions
pub redone_length : (im : List (List ℕ)) (r : Record) → length (redo im r) ≡ length im
redone_length im r = by_touch (touch_of r)
  where
    by_touch : (o : Option Touch) → length (redo_touch im o) ≡ length im
    by_touch None = refl
    by_touch (Some b) = length-set im b.block.region _

pub spelled_undo : SpelledUndo
spelled_undo (Forward t b) c = c.1.undo
spelled_undo _ c = tt

-- ---- before the first record, and behind the last
pub start_undos : (l m : Table Pending) (t : ℕ) → l ≡ empty → AreUndos (undos_at m t) → AreUndos (performed_in l m t)
start_undos l m t e h = subst (λ o. AreUndos (performed_in o m t)) (sym e) (subst (λ o. AreUndos (by_rows o (status_at m t))) (sym (no_rows t)) (by_state (state_at m t)))
  where
    by_state : (o : Option State) → AreUndos (undos_in (status_by o (undos_at m t)))
    by_state None = tt
    by_state (Some Live) = h
    by_state (Some (Dead z)) = h
    by_state (Some (Cleaning z)) = h
    by_state (Some Committed) = tt

pub end_undos : (l m : Table Pending) (t : ℕ) → m ≡ empty → l ≡ empty → AreUndos (performed_in l m t)
end_undos l m t e f = subst (λ o. AreUndos (performed_in o m t)) (sym f) (subst (λ o. AreUndos (performed_in empty o t)) (sym e) (subst AreUndos (sym (none_performed t)) tt))

pub as_many : (s : Sizes) (im jm : List (List ℕ)) → length im ≡ regions s → length jm ≡ length im → length jm ≡ regions s
as_many s im jm h e = e ∙ h

pub as_many_at_start : (s : Sizes) (im jm : List (List ℕ)) → length im ≡ regions s → jm ≡ im → length jm ≡ regions s
as_many_at_start s im jm h e = ap length e ∙ h

pub as_many_freed : (s : Sizes) (im jm : List (List ℕ)) → length im ≡ regions s → jm ≡ freed s im → length jm ≡ regions s
as_many_freed s im jm h e = ap length e ∙ (length_of_halves (λ ws. fold free_word ws (map entry.state_word entry.entries)) (λ ws. fold free_word ws (map cell.state_word cell.cells)) s.index im ∙ h)

pub no_undos : (m : Table Pending) (t : ℕ) → m ≡ empty → AreUndos (undos_at m t)
no_undos m t e = subst (λ o. AreUndos (undos_at o t)) (sym e) (subst (λ o. AreUndos (option_map_or (λ row. row.undos) o [])) (sym (no_rows t)) tt)
