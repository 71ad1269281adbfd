-- An undo comes only with a change.
use Rattle.std.proofs.Common.{◌≡◌, ℕ, true, Option, Some, None, refl}
use Rattle.std.specs.Prelude.{IsSome, is_none}
use Rattle.std.proofs.lemmas.Bool.{and_parts}
use Rattle.dali_record.specs.declared.operations.Op.{Op}
use Rattle.dali_record.specs.declared.operations.Op.TheVariants.{Add, KillEntry, Put, Change, KillCell}
use Rattle.dali_record.specs.declared.operations.Outcome.{Outcome}
use Rattle.dali_record.specs.declared.operations.Outcome.TheVariants.{Found, Absent, Added, NoEntry, Killed, Put as PutIn, NoCell, Value, Changed, NotLive, OtherKey, OddLength, Undone}
use Rattle.dali_record.specs.declared.operations.Undo.{Undo}
use Rattle.dali_record.specs.declared.operations.Block.{Block}
use Rattle.dali_record.specs.Operations.{changes}
use Rattle.dali_record.specs.Blocks.{changes_item}
use Rattle.dali_record.specs.Spelling.{undoes_add, undoes_kill_entry, undoes_put, undoes_change, undoes_kill_cell, undoes, IsBlock}

no_undo : (o : Outcome) (u : Option Undo) → is_none u ≡ true → IsSome u → changes o ≡ true
no_undo o None e h = absurd cc
no_undo o (Some u) e h = absurd cc

of_add : (o : Outcome) (u : Option Undo) → undoes_add o u ≡ true → IsSome u → changes o ≡ true
of_add (Found n p) u e h = no_undo (Found n p) u e h
of_add (Absent b) u e h = no_undo (Absent b) u e h
of_add (Added n) u e h = refl
of_add NoEntry u e h = no_undo NoEntry u e h
of_add Killed u e h = no_undo Killed u e h
of_add (PutIn c) u e h = no_undo (PutIn c) u e h
of_add NoCell u e h = no_undo NoCell u e h
of_add (Value v) u e h = no_undo (Value v) u e h
of_add Changed u e h = no_undo Changed u e h
of_add (NotLive n) u e h = no_undo (NotLive n) u e h
of_add (OtherKey n) u e h = no_undo (OtherKey n) u e h
of_add (OddLength n) u e h = no_undo (OddLength n) u e h
of_add Undone u e h = no_undo Undone u e h

of_kill_entry : (entry : ℕ) (o : Outcome) (u : Option Undo) → undoes_kill_entry entry o u ≡ true → IsSome u → changes o ≡ true
of_kill_entry entry (Found n p) u e h = no_undo (Found n p) u e h
of_kill_entry entry (Absent b) u e h = no_undo (Absent b) u e h
of_kill_entry entry (Added n) u e h = no_undo (Added n) u e h
of_kill_entry entry NoEntry u e h = no_undo NoEntry u e h
of_kill_entry entry Killed u e h = refl
of_kill_entry entry (PutIn c) u e h = no_undo (PutIn c) u e h
of_kill_entry entry NoCell u e h = no_undo NoCell u e h
of_kill_entry entry (Value v) u e h = no_undo (Value v) u e h
of_kill_entry entry Changed u e h = no_undo Changed u e h
of_kill_entry entry (NotLive n) u e h = no_undo (NotLive n) u e h
of_kill_entry entry (OtherKey n) u e h = no_undo (OtherKey n) u e h
of_kill_entry entry (OddLength n) u e h = no_undo (OddLength n) u e h
of_kill_entry entry Undone u e h = no_undo Undone u e h

of_put : (o : Outcome) (u : Option Undo) → undoes_put o u ≡ true → IsSome u → changes o ≡ true
of_put (Found n p) u e h = no_undo (Found n p) u e h
of_put (Absent b) u e h = no_undo (Absent b) u e h
of_put (Added n) u e h = no_undo (Added n) u e h
of_put NoEntry u e h = no_undo NoEntry u e h
of_put Killed u e h = no_undo Killed u e h
of_put (PutIn c) u e h = refl
of_put NoCell u e h = no_undo NoCell u e h
of_put (Value v) u e h = no_undo (Value v) u e h
of_put Changed u e h = no_undo Changed u e h
of_put (NotLive n) u e h = no_undo (NotLive n) u e h
of_put (OtherKey n) u e h = no_undo (OtherKey n) u e h
of_put (OddLength n) u e h = no_undo (OddLength n) u e h
of_put Undone u e h = no_undo Undone u e h

of_change : (cell : ℕ) (o : Outcome) (u : Option Undo) → undoes_change cell o u ≡ true → IsSome u → changes o ≡ true
of_change cell (Found n p) u e h = no_undo (Found n p) u e h
of_change cell (Absent b) u e h = no_undo (Absent b) u e h
of_change cell (Added n) u e h = no_undo (Added n) u e h
of_change cell NoEntry u e h = no_undo NoEntry u e h
of_change cell Killed u e h = no_undo Killed u e h
of_change cell (PutIn c) u e h = no_undo (PutIn c) u e h
of_change cell NoCell u e h = no_undo NoCell u e h
of_change cell (Value v) u e h = no_undo (Value v) u e h
of_change cell Changed u e h = refl
of_change cell (NotLive n) u e h = no_undo (NotLive n) u e h
of_change cell (OtherKey n) u e h = no_undo (OtherKey n) u e h
of_change cell (OddLength n) u e h = no_undo (OddLength n) u e h
of_change cell Undone u e h = no_undo Undone u e h

of_kill_cell : (cell : ℕ) (o : Outcome) (u : Option Undo) → undoes_kill_cell cell o u ≡ true → IsSome u → changes o ≡ true
of_kill_cell cell (Found n p) u e h = no_undo (Found n p) u e h
of_kill_cell cell (Absent b) u e h = no_undo (Absent b) u e h
of_kill_cell cell (Added n) u e h = no_undo (Added n) u e h
of_kill_cell cell NoEntry u e h = no_undo NoEntry u e h
of_kill_cell cell Killed u e h = refl
of_kill_cell cell (PutIn c) u e h = no_undo (PutIn c) u e h
of_kill_cell cell NoCell u e h = no_undo NoCell u e h
of_kill_cell cell (Value v) u e h = no_undo (Value v) u e h
of_kill_cell cell Changed u e h = no_undo Changed u e h
of_kill_cell cell (NotLive n) u e h = no_undo (NotLive n) u e h
of_kill_cell cell (OtherKey n) u e h = no_undo (OtherKey n) u e h
of_kill_cell cell (OddLength n) u e h = no_undo (OddLength n) u e h
of_kill_cell cell Undone u e h = no_undo Undone u e h

given_undo : (op : Op) (o : Outcome) (u : Option Undo) → undoes op o u ≡ true → IsSome u → changes o ≡ true
given_undo (Add place) o u e h = of_add o u e h
given_undo (KillEntry entry) o u e h = of_kill_entry entry o u e h
given_undo (Put v) o u e h = of_put o u e h
given_undo (Change cell v) o u e h = of_change cell o u e h
given_undo (KillCell cell) o u e h = of_kill_cell cell o u e h
given_undo _ o u e h = no_undo o u e h

pub undo_changes : (b : Block) → IsBlock b → IsSome b.undo → changes_item b ≡ true
undo_changes b is h = given_undo b.op b.outcome b.undo (and_parts _ _ is.fit).1 h
