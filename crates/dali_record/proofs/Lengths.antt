-- How many bytes spell a record.
use Rattle.std.proofs.Common.{◌≡◌, ℕ, ◌+◌, ◌*◌, true, List, [], ◌∷◌, ◌++◌, length, Option, Some, None, refl, ap, ◌∙◌, arith, length-append}
use Rattle.std.specs.Prelude.{flat_map}
use Rattle.std.proofs.lemmas.List.Concat.{flat_map-cons}
use Rattle.dali_bytes.specs.Fields.{number32, number64}
use Rattle.dali_bytes.proofs.Numbers.{length-number32, length-number64}
use Rattle.dali_record.specs.declared.operations.Op.{Op}
use Rattle.dali_record.specs.declared.operations.Op.TheVariants.{Add, Put, Change, Restore}
use Rattle.dali_record.specs.declared.operations.Outcome.{Outcome}
use Rattle.dali_record.specs.declared.operations.Outcome.TheVariants.{Found, Absent, Value, Changed, NotLive, OtherKey, OddLength, Undone}
use Rattle.dali_record.specs.declared.operations.Undo.{Undo}
use Rattle.dali_record.specs.declared.operations.Undo.TheVariants.{FreeCell as UndoFreeCell, ReviveCell as UndoReviveCell, Restore as UndoRestore, FreeEntry as UndoFreeEntry, ReviveEntry as UndoReviveEntry}
use Rattle.dali_record.specs.declared.operations.Block.{Block}
use Rattle.dali_record.specs.declared.records.Call.{Call}
use Rattle.dali_record.specs.declared.records.Call.TheVariants.{Insert, Update, Delete, Get}
use Rattle.dali_record.specs.declared.records.Answer.{Answer}
use Rattle.dali_record.specs.declared.records.Answer.TheVariants.{Got, Odd}
use Rattle.dali_record.specs.declared.records.Record.{Record}
use Rattle.dali_record.specs.declared.records.Record.TheVariants.{Format, Begin, Forward, Done, Commit, Ended, Solo, AuditBegin, AuditClean, AuditFail, Restarted, Back}
use Rattle.dali_record.specs.Spelling.{spelling, CanBeSpelled, IsOperation, MayBeUndo, IsBlock, op_bytes, outcome_bytes, undo_bytes, block_bytes, call_bytes, answer_bytes, words_bytes, op_length, outcome_length, undo_length, block_length, call_length, answer_length, record_length}

pub number32_is_4 : (n : ℕ) → length (number32 n) ≡ 4
number32_is_4 n = length-number32 n

pub number64_is_8 : (n : ℕ) → length (number64 n) ≡ 8
number64_is_8 n = length-number64 n

pub words_are_8 : (ns : List ℕ) → length (words_bytes ns) ≡ 8 * length ns
words_are_8 [] = refl
words_are_8 (n ∷ ns) = ap length (flat_map-cons number64 n ns) ∙ omega (arith, length-append (number64 n) (words_bytes ns), length-number64 n, words_are_8 ns)

pub regions_are_4 : (ns : List ℕ) → length (flat_map number32 ns) ≡ 4 * length ns
regions_are_4 [] = refl
regions_are_4 (n ∷ ns) = ap length (flat_map-cons number32 n ns) ∙ omega (arith, length-append (number32 n) (flat_map number32 ns), length-number32 n, regions_are_4 ns)

pub length-op : (op : Op) → IsOperation op → length (op_bytes op) ≡ op_length op
length-op (Add p) h = omega (arith, length-number64 p)
length-op (Put v) h = omega arith
length-op (Change c v) h = omega arith
length-op (Restore c n vs) h = omega (arith, length-append (number64 n) (words_bytes vs), length-number64 n, words_are_8 vs, h.2.0)
length-op _ h = refl

pub length-outcome : (o : Outcome) → length (outcome_bytes o) ≡ outcome_length o
length-outcome (Found e p) = omega (arith, length-number64 p)
length-outcome (Absent true) = refl
length-outcome (Value v) = omega arith
length-outcome Changed = refl
length-outcome (NotLive n) = omega (arith, length-number64 n)
length-outcome (OtherKey n) = omega (arith, length-number64 n)
length-outcome (OddLength n) = omega (arith, length-number64 n)
length-outcome Undone = refl
length-outcome _ = refl

pub length-undo : (u : Option Undo) → MayBeUndo u → length (undo_bytes u) ≡ undo_length u
length-undo None h = refl
length-undo (Some (UndoFreeCell c)) h = refl
length-undo (Some (UndoReviveCell c)) h = refl
length-undo (Some (UndoRestore c n vs)) h = omega (arith, length-append (number64 n) (words_bytes vs), length-number64 n, words_are_8 vs, h.2.0)
length-undo (Some (UndoFreeEntry e)) h = refl
length-undo (Some (UndoReviveEntry e)) h = refl

nine : (a b c d e f g h i : List ℕ) → length (a ++ (b ++ (c ++ (d ++ (e ++ (f ++ (g ++ (h ++ i)))))))) ≡ length a + (length b + (length c + (length d + (length e + (length f + (length g + (length h + length i)))))))
nine a b c d e f g h i = simp length-append

pub length-block : (b : Block) → IsBlock b → length (block_bytes b) ≡ block_length b
length-block b is =
    let all = nine (number64 b.key) (number32 b.region) (op_bytes b.op) (number64 b.read) (number64 b.xor) (number64 b.write) (words_bytes b.after) (outcome_bytes b.outcome) (undo_bytes b.undo) in
    all ∙ omega (arith, length-number64 b.key, length-number32 b.region, length-op b.op is.op, length-number64 b.read, length-number64 b.xor, length-number64 b.write, words_are_8 b.after, length-outcome b.outcome, length-undo b.undo is.undo)

pub length-call : (c : Call) → length (call_bytes c) ≡ call_length c
length-call (Insert k v) = omega (arith, length-append (number64 k) (length v ∷ v), length-number64 k)
length-call (Update k v) = omega (arith, length-append (number64 k) (length v ∷ v), length-number64 k)
length-call (Delete k) = omega (arith, length-number64 k)
length-call (Get k) = omega (arith, length-number64 k)

pub length-answer : (a : Answer) → length (answer_bytes a) ≡ answer_length a
length-answer (Got v) = omega arith
length-answer (Odd p) = omega (arith, length-number64 p)
length-answer _ = refl

pub length-spelling : (r : Record) → CanBeSpelled r → length (spelling r) ≡ record_length r
length-spelling (Format i h) is = omega (arith, length-append (number32 i) (number32 h), length-number32 i, length-number32 h)
length-spelling (Begin t) is = omega (arith, length-number64 t)
length-spelling (Forward t b) is = omega (arith, length-append (number64 t) (block_bytes b), length-number64 t, length-block b is.1)
length-spelling (Done t c a) is = omega (arith, length-append (number64 t) (call_bytes c ++ answer_bytes a), length-append (call_bytes c) (answer_bytes a), length-number64 t, length-call c, length-answer a)
length-spelling (Commit t) is = omega (arith, length-number64 t)
length-spelling (Ended t) is = omega (arith, length-number64 t)
length-spelling (Solo t p b) is = omega (arith, length-append (number64 t) (number64 p ++ block_bytes b), length-append (number64 p) (block_bytes b), length-number64 t, length-number64 p, length-block b is.2)
length-spelling AuditBegin is = refl
length-spelling (AuditClean n) is = omega (arith, length-number64 n)
length-spelling (AuditFail n rs) is = omega (arith, length-append (number64 n) (number32 (length rs) ++ flat_map number32 rs), length-append (number32 (length rs)) (flat_map number32 rs), length-number64 n, length-number32 (length rs), regions_are_4 rs)
length-spelling (Restarted rs ds) is = omega (arith, length-append (number32 (length rs) ++ words_bytes rs) (number32 (length ds) ++ words_bytes ds), length-append (number32 (length rs)) (words_bytes rs), length-append (number32 (length ds)) (words_bytes ds), length-number32 (length rs), length-number32 (length ds), words_are_8 rs, words_are_8 ds)
length-spelling (Back t b) is = omega (arith, length-append (number64 t) (block_bytes b), length-number64 t, length-block b is.1)
