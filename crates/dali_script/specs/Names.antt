-- The words that commands begin with.
--     text_of name       the word itself
--     names              all of them
--     name_of word       which of them a word is
use Rattle.std.specs.Prelude.{ℕ, List, [], ◌∷◌, Option, find, codes, nat_eq}
use Rattle.std.specs.Cmp.Lexicographic.{pointwise}
use Rattle.dali_script.specs.declared.names.Name.{Name}
use Rattle.dali_script.specs.declared.names.Name.TheVariants.{Size, Open, Client, End, Begin, Insert, Update, Delete, Get, Die, Commit, Abort, Poke, Audit, Checkpoint, Cleanup, Crash, Restart, Show, Verify, Next, Fuse}

abbrev pub text_of : Name → List ℕ
text_of Size = codes "size"
text_of Open = codes "open"
text_of Client = codes "client"
text_of End = codes "end"
text_of Begin = codes "begin"
text_of Insert = codes "insert"
text_of Update = codes "update"
text_of Delete = codes "delete"
text_of Get = codes "get"
text_of Die = codes "die"
text_of Commit = codes "commit"
text_of Abort = codes "abort"
text_of Poke = codes "poke"
text_of Audit = codes "audit"
text_of Checkpoint = codes "checkpoint"
text_of Cleanup = codes "cleanup"
text_of Crash = codes "crash"
text_of Restart = codes "restart"
text_of Show = codes "show"
text_of Verify = codes "verify"
text_of Next = codes "next"
text_of Fuse = codes "fuse"

abbrev pub names : List Name
names = Insert ∷ Commit ∷ Begin ∷ Get ∷ Update ∷ Delete ∷ Client ∷ End ∷ Abort ∷ Next ∷ Size ∷ Open ∷ Die ∷ Poke ∷ Audit ∷ Checkpoint ∷ Cleanup ∷ Crash ∷ Restart ∷ Show ∷ Verify ∷ Fuse ∷ []

abbrev pub name_of : List ℕ → Option Name
name_of word = find (λ name. pointwise nat_eq (text_of name) word) names
