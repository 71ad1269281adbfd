-- The transcripts of the clients, handed out one by one.
use Rattle.std.proofs.Common.{◌≡◌, ℕ, zero, suc, List, [], ◌∷◌, ◌++◌, length, drop, Some, refl, ap, sym, ◌∙◌, arith}
use Rattle.std.specs.Prelude.{slice_get}
use Rattle.std.proofs.lemmas.List.{append_assoc, append-nil, length-append}
use Rattle.dali_runs.proofs.CountsLemmas.Lists.{some_same}
use Rattle.dali_transcripts.specs.declared.clients.command.Block.{Block}
use Rattle.dali_transcripts.specs.Clients.Said.{Transcribed}
use Rattle.dali_turns.specs.declared.client.Client.{Client}
use Rattle.dali_round.specs.Ends.{named}

-- what is handed out, with what is left, is all
abbrev pub AllNamed : List Block → List Client → List Transcribed → List Client → Type 0
AllNamed bs ks ts rest = ts ++ named (drop (length ts) bs) rest ≡ named bs ks

drop_at : (bs : List Block) (n : ℕ) (b : Block) → slice_get bs n ≡ Some b → drop n bs ≡ b ∷ drop (suc n) bs
drop_at [] n b e = absurd (cc)
drop_at (c ∷ bs) zero b e = ap (λ z. z ∷ bs) (some_same e)
drop_at (c ∷ bs) (suc n) b e = drop_at bs n b e

none_named : (bs : List Block) → named bs [] ≡ []
none_named [] = refl
none_named (b ∷ bs) = refl

pub one_named : (bs : List Block) (ks : List Client) (ts : List Transcribed) (k : Client) (rest : List Client) (b : Block) → slice_get bs (length ts) ≡ Some b → AllNamed bs ks ts (k ∷ rest)
    → AllNamed bs ks (ts ++ record k.transcript { client = b.client } ∷ []) rest
one_named bs ks ts k rest b e all =
    let many = length-append ts (record k.transcript { client = b.client } ∷ []) in
    let size : length (ts ++ record k.transcript { client = b.client } ∷ []) ≡ suc (length ts) = omega (arith, many) in
    ap (λ n. (ts ++ record k.transcript { client = b.client } ∷ []) ++ named (drop n bs) rest) size
    ∙ (append_assoc ts (record k.transcript { client = b.client } ∷ []) (named (drop (suc (length ts)) bs) rest)
    ∙ (ap (λ l. ts ++ named l (k ∷ rest)) (sym (drop_at bs (length ts) b e)) ∙ all))

pub all_named : (bs : List Block) (ks : List Client) (ts : List Transcribed) → AllNamed bs ks ts [] → ts ≡ named bs ks
all_named bs ks ts all = sym (append-nil ts) ∙ (ap (λ l. ts ++ l) (sym (none_named (drop (length ts) bs))) ∙ all)
