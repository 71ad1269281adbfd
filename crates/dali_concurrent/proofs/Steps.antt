-- The steps that the names of entries tell.
use Rattle.std.proofs.Common.{◌≡◌, Bool, true, false, List, [], ◌∷◌, refl, ap, ◌∙◌, inl, inr}
use Rattle.std.specs.Prelude.{◌||◌, ℕ}
use Rattle.std.specs.List.{list_all, list_any}
use Rattle.std.proofs.lemmas.Bool.{and_parts}
use Rattle.dali_runs.specs.Courses.{Locks, Passes, Takes, Flushes, Recovers}
use Rattle.dali_crash.specs.Checkpoints.{StoreStep, Does, Keeps, Copies, Skips, WritesHead, Syncs}
use Rattle.dali_transcripts.specs.World.{GetsLock}
use Rattle.dali_concurrent.specs.Entries.{Entry, Did, Latched, Updated, Freed, Passed, Took, Flushed, Kept, Copied, Wrote}
use Rattle.dali_concurrent.specs.Kept.{is_named, is_pass, is_grant, is_step_on, StepsFit}
use Rattle.dali_concurrent.proofs.Entries.{neither}

-- where none of the steps is f, and each that is g is f, none is g
none_too : (f g : StoreStep → Bool) → ((x : StoreStep) → f x ≡ false → g x ≡ false) → (xs : List StoreStep) → list_any f xs ≡ false → list_any g xs ≡ false
none_too f g less [] h = refl
none_too f g less (x ∷ xs) h = let both = neither (f x) (list_any f xs) h in ap (λ b. b || list_any g xs) (less x both.0) ∙ none_too f g less xs both.1

all_apart : (f g : StoreStep → Bool) → ((x : StoreStep) → f x ≡ true → g x ≡ false) → (xs : List StoreStep) → list_all f xs ≡ true → list_any g xs ≡ false
all_apart f g apart [] h = refl
all_apart f g apart (x ∷ xs) h = let both = and_parts (f x) (list_all f xs) h in ap (λ b. b || list_any g xs) (apart x both.0) ∙ all_apart f g apart xs both.1

-- ---- grants
abbrev pub is_granted : Entry → Bool
is_granted (Did (GetsLock t k m) c) = true
is_granted e = false

unnamed_grant : (x : StoreStep) → is_named x ≡ false → is_grant x ≡ false
unnamed_grant (Does (Locks t k m)) h = absurd (cc)
unnamed_grant x h = refl

on_no_grant : (r : ℕ) (x : StoreStep) → is_step_on r x ≡ true → is_grant x ≡ false
on_no_grant r (Does (Locks t k m)) h = absurd (cc)
on_no_grant r x h = refl

same_steps : (g : StoreStep → Bool) (xs ys : List StoreStep) → xs ≡ ys → list_any g ys ≡ false → list_any g xs ≡ false
same_steps g xs ys e h = ap (list_any g) e ∙ h

pub no_grant : (e : Entry) (xs : List StoreStep) → is_granted e ≡ false → StepsFit e xs → list_any is_grant xs ≡ false
no_grant (Did (GetsLock t k m) c) xs none fit = absurd (cc)
no_grant (Did x c) xs none fit = none_too is_named is_grant unnamed_grant xs fit
no_grant (Latched r t c) xs none fit = all_apart (is_step_on r) is_grant (on_no_grant r) xs fit
no_grant (Updated r c) xs none fit = all_apart (is_step_on r) is_grant (on_no_grant r) xs fit
no_grant (Freed r c) xs none (inl fit) = all_apart (is_step_on r) is_grant (on_no_grant r) xs fit
no_grant (Freed r c) xs none (inr fit) = same_steps is_grant xs (Does (Recovers r) ∷ []) fit refl
no_grant (Passed r b right) xs none fit = same_steps is_grant xs (Does (Passes b r) ∷ []) fit refl
no_grant Took xs none fit = same_steps is_grant xs (Does Takes ∷ []) fit refl
no_grant Flushed xs none fit = same_steps is_grant xs (Does Flushes ∷ []) fit refl
no_grant Kept xs none fit = same_steps is_grant xs (Keeps ∷ []) fit refl
no_grant (Copied r) xs none (n, inl fit) = same_steps is_grant xs (Copies r n ∷ []) fit refl
no_grant (Copied r) xs none (n, inr fit) = same_steps is_grant xs (Skips r n ∷ []) fit refl
no_grant Wrote xs none (inl fit) = same_steps is_grant xs (Syncs ∷ []) fit refl
no_grant Wrote xs none (inr (h, fit)) = same_steps is_grant xs (WritesHead h ∷ []) fit refl

-- ---- passes
abbrev pub is_passing : Entry → Bool
is_passing (Passed r b right) = true
is_passing e = false

unnamed_pass : (x : StoreStep) → is_named x ≡ false → is_pass x ≡ false
unnamed_pass (Does (Passes b r)) h = absurd (cc)
unnamed_pass x h = refl

on_no_pass : (r : ℕ) (x : StoreStep) → is_step_on r x ≡ true → is_pass x ≡ false
on_no_pass r (Does (Passes b q)) h = absurd (cc)
on_no_pass r x h = refl

pub no_pass : (e : Entry) (xs : List StoreStep) → is_passing e ≡ false → StepsFit e xs → list_any is_pass xs ≡ false
no_pass (Did (GetsLock t k m) c) xs none fit = same_steps is_pass xs (Does (Locks t k m) ∷ []) fit refl
no_pass (Did x c) xs none fit = none_too is_named is_pass unnamed_pass xs fit
no_pass (Latched r t c) xs none fit = all_apart (is_step_on r) is_pass (on_no_pass r) xs fit
no_pass (Updated r c) xs none fit = all_apart (is_step_on r) is_pass (on_no_pass r) xs fit
no_pass (Freed r c) xs none (inl fit) = all_apart (is_step_on r) is_pass (on_no_pass r) xs fit
no_pass (Freed r c) xs none (inr fit) = same_steps is_pass xs (Does (Recovers r) ∷ []) fit refl
no_pass (Passed r b right) xs none fit = absurd (cc)
no_pass Took xs none fit = same_steps is_pass xs (Does Takes ∷ []) fit refl
no_pass Flushed xs none fit = same_steps is_pass xs (Does Flushes ∷ []) fit refl
no_pass Kept xs none fit = same_steps is_pass xs (Keeps ∷ []) fit refl
no_pass (Copied r) xs none (n, inl fit) = same_steps is_pass xs (Copies r n ∷ []) fit refl
no_pass (Copied r) xs none (n, inr fit) = same_steps is_pass xs (Skips r n ∷ []) fit refl
no_pass Wrote xs none (inl fit) = same_steps is_pass xs (Syncs ∷ []) fit refl
no_pass Wrote xs none (inr (h, fit)) = same_steps is_pass xs (WritesHead h ∷ []) fit refl

-- ---- flushes
abbrev pub is_flush : StoreStep → Bool
is_flush (Does Flushes) = true
is_flush x = false

abbrev pub is_flushing : Entry → Bool
is_flushing Flushed = true
is_flushing e = false

unnamed_flush : (x : StoreStep) → is_named x ≡ false → is_flush x ≡ false
unnamed_flush (Does Flushes) h = absurd (cc)
unnamed_flush x h = refl

on_no_flush : (r : ℕ) (x : StoreStep) → is_step_on r x ≡ true → is_flush x ≡ false
on_no_flush r (Does Flushes) h = absurd (cc)
on_no_flush r x h = refl

pub no_flushes : (e : Entry) (xs : List StoreStep) → is_flushing e ≡ false → StepsFit e xs → list_any is_flush xs ≡ false
no_flushes (Did (GetsLock t k m) c) xs none fit = same_steps is_flush xs (Does (Locks t k m) ∷ []) fit refl
no_flushes (Did x c) xs none fit = none_too is_named is_flush unnamed_flush xs fit
no_flushes (Latched r t c) xs none fit = all_apart (is_step_on r) is_flush (on_no_flush r) xs fit
no_flushes (Updated r c) xs none fit = all_apart (is_step_on r) is_flush (on_no_flush r) xs fit
no_flushes (Freed r c) xs none (inl fit) = all_apart (is_step_on r) is_flush (on_no_flush r) xs fit
no_flushes (Freed r c) xs none (inr fit) = same_steps is_flush xs (Does (Recovers r) ∷ []) fit refl
no_flushes (Passed r b right) xs none fit = same_steps is_flush xs (Does (Passes b r) ∷ []) fit refl
no_flushes Took xs none fit = same_steps is_flush xs (Does Takes ∷ []) fit refl
no_flushes Flushed xs none fit = absurd (cc)
no_flushes Kept xs none fit = same_steps is_flush xs (Keeps ∷ []) fit refl
no_flushes (Copied r) xs none (n, inl fit) = same_steps is_flush xs (Copies r n ∷ []) fit refl
no_flushes (Copied r) xs none (n, inr fit) = same_steps is_flush xs (Skips r n ∷ []) fit refl
no_flushes Wrote xs none (inl fit) = same_steps is_flush xs (Syncs ∷ []) fit refl
no_flushes Wrote xs none (inr (h, fit)) = same_steps is_flush xs (WritesHead h ∷ []) fit refl

-- ---- heads that are kept
abbrev pub is_keep : StoreStep → Bool
is_keep Keeps = true
is_keep x = false

abbrev pub is_keeping : Entry → Bool
is_keeping Kept = true
is_keeping e = false

unnamed_keep : (x : StoreStep) → is_named x ≡ false → is_keep x ≡ false
unnamed_keep Keeps h = absurd (cc)
unnamed_keep x h = refl

on_no_keep : (r : ℕ) (x : StoreStep) → is_step_on r x ≡ true → is_keep x ≡ false
on_no_keep r Keeps h = absurd (cc)
on_no_keep r x h = refl

pub no_keeps : (e : Entry) (xs : List StoreStep) → is_keeping e ≡ false → StepsFit e xs → list_any is_keep xs ≡ false
no_keeps (Did (GetsLock t k m) c) xs none fit = same_steps is_keep xs (Does (Locks t k m) ∷ []) fit refl
no_keeps (Did x c) xs none fit = none_too is_named is_keep unnamed_keep xs fit
no_keeps (Latched r t c) xs none fit = all_apart (is_step_on r) is_keep (on_no_keep r) xs fit
no_keeps (Updated r c) xs none fit = all_apart (is_step_on r) is_keep (on_no_keep r) xs fit
no_keeps (Freed r c) xs none (inl fit) = all_apart (is_step_on r) is_keep (on_no_keep r) xs fit
no_keeps (Freed r c) xs none (inr fit) = same_steps is_keep xs (Does (Recovers r) ∷ []) fit refl
no_keeps (Passed r b right) xs none fit = same_steps is_keep xs (Does (Passes b r) ∷ []) fit refl
no_keeps Took xs none fit = same_steps is_keep xs (Does Takes ∷ []) fit refl
no_keeps Flushed xs none fit = same_steps is_keep xs (Does Flushes ∷ []) fit refl
no_keeps Kept xs none fit = absurd (cc)
no_keeps (Copied r) xs none (n, inl fit) = same_steps is_keep xs (Copies r n ∷ []) fit refl
no_keeps (Copied r) xs none (n, inr fit) = same_steps is_keep xs (Skips r n ∷ []) fit refl
no_keeps Wrote xs none (inl fit) = same_steps is_keep xs (Syncs ∷ []) fit refl
no_keeps Wrote xs none (inr (h, fit)) = same_steps is_keep xs (WritesHead h ∷ []) fit refl
