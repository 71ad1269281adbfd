-- Rounds over a core.
use Rattle.std.proofs.Common.{◌≡◌, ◌<◌, ◌≤◌, ℕ, Bool, true, List, [], ◌∷◌, Result, Ok, Err, map, refl, sym, ◌∙◌, ap, subst, inl, inr, arith}
use Rattle.std.specs.Prelude.{◌⊎◌, ◌||◌, flat_map, IfOk, IfErr, OnErr}
use Rattle.std.specs.List.{list_any}
use Rattle.dali_transcripts.specs.declared.clients.command.Block.{Block}
use Rattle.dali_transcripts.specs.Clients.Said.{Transcribed}
use Rattle.dali_transcripts.specs.declared.clients.line.Line.{Line}
use Rattle.dali_transcripts.specs.Clients.Told.{said_of, told_of}
use Rattle.dali_fuse.specs.Fuse.{failed_of}
use Rattle.dali_fuse.specs.declared.fuse.Fuse.{Fuse}
use Rattle.dali_round.specs.declared.rounds.RoundEnd.{RoundEnd}
use Rattle.dali_round.specs.declared.rounds.RoundEnd.TheVariants.{Done}
use Rattle.dali_round.specs.Leads.{is_done, RoundGoes}
use Rattle.dali_script.specs.declared.commands.Block.{Block as Script}
use Rattle.dali_script.specs.declared.names.Name.{Name}
use Rattle.dali_store.specs.declared.store.Store.{Ghosts}
use Rattle.dali_transcripts.specs.Words.{Act}
use Rattle.dali_transcripts.specs.Transcripts.{Told}
use Rattle.dali_core.specs.declared.whole.Core.{Core}
use Rattle.dali_core.specs.Cores.{IsNoShorter}
use Rattle.dali_run.specs.declared.halt.Halt.{Halt}
use Rattle.dali_run.specs.declared.halt.Halt.TheVariants.{OutOfMemory}
use Rattle.dali_run.specs.Fails.{FailsAlone, LostOver, Played}
use Rattle.dali_run.specs.declared.program.Program.{Program}
use Rattle.dali_run.specs.declared.program.Program.TheVariants.{Up}
use Rattle.dali_run.specs.Program.{PlacesIn, told_in, leaves_in, faults_in, fused}
use Rattle.dali_run.specs.Steps.{ActsAlone, Plays, RightWithin, RunsRound, StepsAlone, StepsRound, TellAll}
use Rattle.dali_run.specs.Texts.{alone_texts, said_texts, is_failure, says_failure}
use Rattle.dali_run.specs.Told.{alone, told_by}
use Rattle.dali_run.proofs.RoundTexts.{round_said}

same_clients : (bs : List Block) → map (λ (b : Told). b.client) (map told_of bs) ≡ map (λ (b : Block). b.client) bs
same_clients [] = refl
same_clients (b ∷ bs) = ap (λ (l : List ℕ). b.client ∷ l) (same_clients bs)

pub tell_all : (bs : List Block) (ts : List Transcribed) → (map (λ (t : Transcribed). t.client) ts ≡ map (λ (b : Block). b.client) bs) ⊎ (ts ≡ []) → TellAll (map told_of bs) ts
tell_all bs ts (inl e) = inl (e ∙ sym (same_clients bs))
tell_all bs ts (inr none) = inr none

-- what is said of a result that is known
pub ok_holds : {T E : Type 0} (P : T → Type 0) (r : Result T E) (x : T) → r ≡ Ok x → IfOk r P → P x
ok_holds P (Ok y) x e p = let same : y ≡ x = cc in subst P same p
ok_holds P (Err f) x e p = absurd cc

pub on_err_holds : {T E P : Type 0} (r : Result T E) (x : E) → r ≡ Err x → OnErr r P → P
on_err_holds (Ok y) x e p = absurd cc
on_err_holds (Err f) x e p = p

-- what holds of the one error that there is
pub if_memory : {T : Type 0} (r : Result T Halt) (P : Halt → Type 0) → P OutOfMemory → IfErr r (λ halt. halt ≡ OutOfMemory) → IfErr r P
if_memory (Ok x) P p is = tt
if_memory (Err halt) P p is = subst P (sym is) p

pub any_said : (xs : List Line) → list_any (λ s. is_failure (said_of s)) xs ≡ list_any is_failure (map said_of xs)
any_said [] = refl
any_said (x ∷ xs) = ap (λ (b : Bool). is_failure (said_of x) || b) (any_said xs)

pub less_so : (a b x y : ℕ) → x ≡ a → y ≡ b → x < y → a < b
less_so a b x y ax by lt = omega (arith, ax, by, lt)

pub most_so : (a b x y : ℕ) → x ≡ a → y ≡ b → x ≤ y → a ≤ b
most_so a b x y ax by le = omega (arith, ax, by, le)

module _ {V : Type 0} (g : Ghosts V) (precheck : Bool) where
  abbrev Goes : List Block → Core (Fuse V) → RoundEnd → List Transcribed → Core (Fuse V) → Type 0
  Goes bs c end ts d =
      RoundGoes (fused g) precheck bs c.regions.items c.system.state c.vault end ts d.regions.items d.system.state d.vault

  pub plays_done : (bs : List Block) (c d : Core (Fuse V)) (end : RoundEnd) (ts : List Transcribed) → end ≡ Done → Goes bs c end ts d
      → Plays g precheck true (map told_of bs) c ts d
  plays_done bs c d end ts is goes = subst (λ (e : RoundEnd). Goes bs c e ts d) is goes

  abbrev pub was_played : (bs : List Block) (c d : Core (Fuse V)) (end : RoundEnd) (ts : List Transcribed) → Goes bs c end ts d → IsNoShorter (told_in g) c.vault d.vault → RightWithin g c d
      → Played g precheck (map told_of bs) c d.vault.store
  was_played bs c d end ts goes longer moments = record { whole = is_done end; transcripts = ts; core = d; plays = goes; longer = longer; moments = moments; store = refl }

  -- a round whose lines there is no memory for
  pub played_whole : (blocks : List Told) (c d : Core (Fuse V)) (ts : List Transcribed) → Plays g precheck true blocks c ts d → IsNoShorter (told_in g) c.vault d.vault
      → RightWithin g c d → LostOver g precheck blocks c d.vault.store
  played_whole blocks c d ts plays longer moments = inr (record { whole = true; transcripts = ts; core = d; plays = plays; longer = longer; moments = moments; store = refl })

  pub runs_round : (blocks : List Told) (c d : Core (Fuse V)) (ts : List Transcribed) (text : List ℕ) → Plays g precheck true blocks c ts d
      → TellAll blocks ts → IsNoShorter (told_in g) c.vault d.vault → RightWithin g c d → PlacesIn g d → text ≡ said_texts ts → RunsRound g precheck blocks c text d
  runs_round blocks c d ts text plays tell longer moments places is = record { transcripts = ts; plays = plays; longer = longer; moments = moments; places = places; printed = is ∙ round_said blocks ts tell }

  pub steps_round : (blocks : List Script) (q : Program V) (c d : Core (Fuse V)) (text : List ℕ) → q ≡ Up c → RunsRound g precheck (map told_by blocks) c text d
      → StepsRound g precheck blocks q text (Up d)
  steps_round blocks q c d text is runs = subst (λ (x : Program V). StepsRound g precheck blocks x text (Up d)) (sym is) (d, runs, refl)

  pub steps_alone : (name : Name) (act : Act) (q : Program V) (c d : Core (Fuse V)) (text : List ℕ) → q ≡ Up c → ActsAlone g precheck act c text d
      → StepsAlone g precheck name act q text (Up d)
  steps_alone name act q c d text is acts = subst (λ (x : Program V). StepsAlone g precheck name act x text (Up d)) (sym is) (d, acts, refl)

  pub acts_alone : (act : Act) (c d : Core (Fuse V)) (ts : List Transcribed) (text : List ℕ) (failure : Bool) → Plays g precheck true (alone act) c ts d
      → IsNoShorter (told_in g) c.vault d.vault → RightWithin g c d → PlacesIn g d → text ≡ flat_map alone_texts ts → failure ≡ list_any says_failure ts → (failure ≡ true → failed_of c.vault.store < failed_of d.vault.store)
      → ActsAlone g precheck act c text d
  acts_alone act c d ts text failure plays longer moments places is said by = record {
    transcripts = ts;
    plays = plays;
    longer = longer;
    moments = moments;
    places = places;
    printed = is;
    by_fuse = λ says. by (said ∙ says);
  }

  pub fails_alone : (act : Act) (c d : Core (Fuse V)) (ts : List Transcribed) (failure : Bool) → Plays g precheck true (alone act) c ts d → IsNoShorter (told_in g) c.vault d.vault
      → RightWithin g c d → failure ≡ list_any says_failure ts → failure ≡ true → failed_of d.vault.store ≤ failed_of c.vault.store
      → FailsAlone g precheck act c d.vault.store
  fails_alone act c d ts failure plays longer moments said is few = record {
    transcripts = ts;
    core = d;
    plays = plays;
    longer = longer;
    moments = moments;
    said = sym said ∙ is;
    store = refl;
    none_by_fuse = few;
  }
