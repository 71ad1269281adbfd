-- An undo is on the kind of region on which its operation was.
use Rattle.std.proofs.Common.{◌≡◌, ℕ, Bool, true, false, Some, refl, ◌∙◌}
use Rattle.dali_geometry.specs.Sizes.{Sizes}
use Rattle.dali_record.specs.declared.operations.Op.{Op}
use Rattle.dali_record.specs.declared.operations.Op.TheVariants.{Look, Add, KillEntry, Put, Read, Change, KillCell}
use Rattle.dali_record.specs.declared.operations.Outcome.{Outcome}
use Rattle.dali_record.specs.declared.operations.Outcome.TheVariants.{Added, Killed, Put as PutIn, Changed}
use Rattle.dali_record.specs.declared.operations.Undo.{Undo}
use Rattle.dali_record.specs.declared.operations.Undo.TheVariants.{FreeCell as UndoFreeCell, ReviveCell as UndoReviveCell, Restore as UndoRestore, FreeEntry as UndoFreeEntry, ReviveEntry as UndoReviveEntry}
use Rattle.dali_record.specs.Operations.{undo_op}
use Rattle.dali_record.specs.Spelling.{undoes, undoes_add, undoes_kill_entry, undoes_put, undoes_change, undoes_kill_cell, frees_cell, revives_cell, restores, frees_entry, revives_entry}
use Rattle.dali_record.specs.Legal.{on_kind}

abbrev is_entry : Undo → Bool
is_entry (UndoFreeCell c) = false
is_entry (UndoReviveCell c) = false
is_entry (UndoRestore c n vs) = false
is_entry (UndoFreeEntry i) = true
is_entry (UndoReviveEntry i) = true

frees_cell_is : (k : ℕ) (u : Undo) → frees_cell k (Some u) ≡ true → is_entry u ≡ false
frees_cell_is k (UndoFreeCell c) e = refl
frees_cell_is k (UndoReviveCell c) e = refl
frees_cell_is k (UndoRestore c n vs) e = refl
frees_cell_is k (UndoFreeEntry i) e = absurd (cc)
frees_cell_is k (UndoReviveEntry i) e = absurd (cc)

revives_cell_is : (k : ℕ) (u : Undo) → revives_cell k (Some u) ≡ true → is_entry u ≡ false
revives_cell_is k (UndoFreeCell c) e = refl
revives_cell_is k (UndoReviveCell c) e = refl
revives_cell_is k (UndoRestore c n vs) e = refl
revives_cell_is k (UndoFreeEntry i) e = absurd (cc)
revives_cell_is k (UndoReviveEntry i) e = absurd (cc)

restores_is : (k : ℕ) (u : Undo) → restores k (Some u) ≡ true → is_entry u ≡ false
restores_is k (UndoFreeCell c) e = refl
restores_is k (UndoReviveCell c) e = refl
restores_is k (UndoRestore c n vs) e = refl
restores_is k (UndoFreeEntry i) e = absurd (cc)
restores_is k (UndoReviveEntry i) e = absurd (cc)

frees_entry_is : (k : ℕ) (u : Undo) → frees_entry k (Some u) ≡ true → is_entry u ≡ true
frees_entry_is k (UndoFreeCell c) e = absurd (cc)
frees_entry_is k (UndoReviveCell c) e = absurd (cc)
frees_entry_is k (UndoRestore c n vs) e = absurd (cc)
frees_entry_is k (UndoFreeEntry i) e = refl
frees_entry_is k (UndoReviveEntry i) e = refl

revives_entry_is : (k : ℕ) (u : Undo) → revives_entry k (Some u) ≡ true → is_entry u ≡ true
revives_entry_is k (UndoFreeCell c) e = absurd (cc)
revives_entry_is k (UndoReviveCell c) e = absurd (cc)
revives_entry_is k (UndoRestore c n vs) e = absurd (cc)
revives_entry_is k (UndoFreeEntry i) e = refl
revives_entry_is k (UndoReviveEntry i) e = refl

undoes_add_is : (o : Outcome) (u : Undo) → undoes_add o (Some u) ≡ true → is_entry u ≡ true
undoes_add_is (Added i) u e = frees_entry_is i u e
undoes_add_is _ u e = absurd (cc)

undoes_kill_entry_is : (k : ℕ) (o : Outcome) (u : Undo) → undoes_kill_entry k o (Some u) ≡ true → is_entry u ≡ true
undoes_kill_entry_is k Killed u e = revives_entry_is k u e
undoes_kill_entry_is k _ u e = absurd (cc)

undoes_put_is : (o : Outcome) (u : Undo) → undoes_put o (Some u) ≡ true → is_entry u ≡ false
undoes_put_is (PutIn c) u e = frees_cell_is c u e
undoes_put_is _ u e = absurd (cc)

undoes_change_is : (k : ℕ) (o : Outcome) (u : Undo) → undoes_change k o (Some u) ≡ true → is_entry u ≡ false
undoes_change_is k Changed u e = restores_is k u e
undoes_change_is k _ u e = absurd (cc)

undoes_kill_cell_is : (k : ℕ) (o : Outcome) (u : Undo) → undoes_kill_cell k o (Some u) ≡ true → is_entry u ≡ false
undoes_kill_cell_is k Killed u e = revives_cell_is k u e
undoes_kill_cell_is k _ u e = absurd (cc)

on_entry : (s : Sizes) (r : ℕ) (u : Undo) → is_entry u ≡ true → on_kind s r (undo_op u) ≡ on_kind s r Look
on_entry s r (UndoFreeCell c) e = absurd (cc)
on_entry s r (UndoReviveCell c) e = absurd (cc)
on_entry s r (UndoRestore c n vs) e = absurd (cc)
on_entry s r (UndoFreeEntry i) e = refl
on_entry s r (UndoReviveEntry i) e = refl

on_cell : (s : Sizes) (r : ℕ) (u : Undo) → is_entry u ≡ false → on_kind s r (undo_op u) ≡ on_kind s r (Read 1)
on_cell s r (UndoFreeCell c) e = refl
on_cell s r (UndoReviveCell c) e = refl
on_cell s r (UndoRestore c n vs) e = refl
on_cell s r (UndoFreeEntry i) e = absurd (cc)
on_cell s r (UndoReviveEntry i) e = absurd (cc)

pub undo_kind : (s : Sizes) (r : ℕ) (op : Op) (o : Outcome) (u : Undo) → undoes op o (Some u) ≡ true → on_kind s r op ≡ true → on_kind s r (undo_op u) ≡ true
undo_kind s r (Add p) o u e k = on_entry s r u (undoes_add_is o u e) ∙ k
undo_kind s r (KillEntry i) o u e k = on_entry s r u (undoes_kill_entry_is i o u e) ∙ k
undo_kind s r (Put v) o u e k = on_cell s r u (undoes_put_is o u e) ∙ k
undo_kind s r (Change c v) o u e k = on_cell s r u (undoes_change_is c o u e) ∙ k
undo_kind s r (KillCell c) o u e k = on_cell s r u (undoes_kill_cell_is c o u e) ∙ k
undo_kind s r _ o u e k = absurd (cc)
