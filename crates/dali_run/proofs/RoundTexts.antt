-- The texts of rounds.
use Rattle.std.proofs.Common.{◌≡◌, ◌≤◌, ◌+◌, ℕ, zero, suc, List, [], ◌∷◌, ◌++◌, length, map, take, refl, sym, ◌∙◌, ap, subst, inl, inr, arith}
use Rattle.std.specs.Prelude.{◌==◌, if◌then◌else◌, flat_map}
use Rattle.std.proofs.lemmas.List.{take_all}
use Rattle.std.proofs.lemmas.List.Folds.{flat_map-map}
use Rattle.dali_transcripts.specs.Words.{Said}
use Rattle.dali_transcripts.specs.Transcripts.{Told, lines_of, text_up_to}
use Rattle.dali_transcripts.specs.declared.clients.line.Line.{Line}
use Rattle.dali_transcripts.specs.Clients.Said.{Transcribed}
use Rattle.dali_transcripts.specs.Clients.Told.{said_of}
use Rattle.dali_report.specs.Lines.{alone_text, client_text, client_texts}
use Rattle.dali_round.specs.Leads.{lines_in}
use Rattle.dali_run.specs.Steps.{TellAll}
use Rattle.dali_run.specs.Texts.{said_by, said_up_to, said_texts, round_lines, alone_texts}

-- ---- one client
client_all : (c : ℕ) (xs : List Line) → flat_map (λ s. client_text c (said_of s)) xs ≡ client_texts c (map said_of xs)
client_all c xs = sym (flat_map-map (client_text c) said_of xs)

alone_all : (xs : List Line) → flat_map (λ s. alone_text (said_of s)) xs ≡ flat_map alone_text (map said_of xs)
alone_all xs = sym (flat_map-map alone_text said_of xs)

-- the text behind the last line
pub client_told : (t : Transcribed) (xs : List Line) (n : ℕ) (before text : List ℕ) → xs ≡ t.lines → length xs ≤ n
    → text ≡ before ++ flat_map (λ s. client_text t.client (said_of s)) (take n xs) → text ≡ before ++ client_texts t.client (lines_in t)
client_told t xs n before text same all is =
    is
    ∙ ap (λ (l : List Line). before ++ flat_map (λ s. client_text t.client (said_of s)) l) (take_all n xs all ∙ same)
    ∙ ap (λ (l : List ℕ). before ++ l) (client_all t.client t.lines)

pub alone_told : (t : Transcribed) (xs : List Line) (n : ℕ) (before text : List ℕ) → xs ≡ t.lines → length xs ≤ n
    → text ≡ before ++ flat_map (λ s. alone_text (said_of s)) (take n xs) → text ≡ before ++ alone_texts t
alone_told t xs n before text same all is =
    is
    ∙ ap (λ (l : List Line). before ++ flat_map (λ s. alone_text (said_of s)) l) (take_all n xs all ∙ same)
    ∙ ap (λ (l : List ℕ). before ++ l) (alone_all t.lines)

-- ---- a round
none_said : (blocks : List Told) (c : ℕ) → lines_of blocks [] c ≡ []
none_said [] c = refl
none_said (b ∷ bs) c = refl

heads : {a b : ℕ} {xs ys : List ℕ} → a ∷ xs ≡ b ∷ ys → a ≡ b
heads e = cc

tails : {a b : ℕ} {xs ys : List ℕ} → a ∷ xs ≡ b ∷ ys → xs ≡ ys
tails e = cc

by_clients : (blocks : List Told) (ts : List Transcribed) (c : ℕ) → map (λ (t : Transcribed). t.client) ts ≡ map (λ (b : Told). b.client) blocks
    → said_by ts c ≡ lines_of blocks (map lines_in ts) c
by_clients [] [] c e = refl
by_clients [] (t ∷ ts) c e = absurd cc
by_clients (b ∷ bs) [] c e = refl
by_clients (b ∷ bs) (t ∷ ts) c e =
    let later = by_clients bs ts c (tails e) in
    ap (λ (l : List Said). if t.client == c then lines_in t else l) later
    ∙ ap (λ (n : ℕ). if n == c then lines_in t else lines_of bs (map lines_in ts) c) (heads e)

said_so : (blocks : List Told) (ts : List Transcribed) (c : ℕ) → TellAll blocks ts → said_by ts c ≡ lines_of blocks (map lines_in ts) c
said_so blocks ts c (inl e) = by_clients blocks ts c e
said_so blocks ts c (inr none) =
    subst (λ (l : List Transcribed). said_by l c ≡ lines_of blocks (map lines_in l) c) (sym none) (sym (none_said blocks c))

up_to : (blocks : List Told) (ts : List Transcribed) (n : ℕ) → TellAll blocks ts → said_up_to ts n ≡ text_up_to client_texts blocks (map lines_in ts) n
unfolding said_up_to
up_to blocks ts zero tell = refl
up_to blocks ts (suc n) tell =
    ap (λ (l : List ℕ). l ++ client_texts (suc n) (said_by ts (suc n))) (up_to blocks ts n tell)
    ∙ ap (λ (l : List Said). text_up_to client_texts blocks (map lines_in ts) n ++ client_texts (suc n) l) (said_so blocks ts (suc n) tell)

pub round_said : (blocks : List Told) (ts : List Transcribed) → TellAll blocks ts → said_texts ts ≡ round_lines blocks (map lines_in ts)
unfolding said_texts round_lines
round_said blocks ts tell = up_to blocks ts 64 tell

pub none_yet : (ts : List Transcribed) → [] ≡ said_up_to ts 0
unfolding said_up_to
none_yet ts = refl

pub one_more : (ts : List Transcribed) (n : ℕ) (before after : List ℕ) → before ≡ said_up_to ts n → after ≡ before ++ client_texts (n + 1) (said_by ts (n + 1))
    → after ≡ said_up_to ts (n + 1)
unfolding said_up_to
one_more ts n before after was is =
    let next : n + 1 ≡ suc n = omega arith in
    subst (λ (k : ℕ). after ≡ said_up_to ts k) (sym next)
    (subst (λ (k : ℕ). after ≡ before ++ client_texts k (said_by ts k)) next is ∙ ap (λ (l : List ℕ). l ++ client_texts (suc n) (said_by ts (suc n))) was)

pub all_said : (ts : List Transcribed) (n : ℕ) (text : List ℕ) → n ≡ 64 → text ≡ said_up_to ts n → text ≡ said_texts ts
unfolding said_texts
all_said ts n text all is = is ∙ ap (λ (k : ℕ). said_up_to ts k) all
