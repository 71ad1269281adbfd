-- Steps of a core, one behind another, and those of an operation on its region among them.
use Rattle.std.proofs.Common.{◌≡◌, ℕ, Bool, true, false, List, [], ◌∷◌, ◌++◌, Option, Some, None, refl, sym, ap, subst, ◌∙◌, IsSomeAnd, slice_get, slice_set, option_map}
use Rattle.std.specs.Prelude.{◌==◌}
use Rattle.std.proofs.lemmas.Bool.Decides.{Decides-eqb}
use Rattle.std.proofs.lemmas.List.{append-nil, set-set}
use Rattle.dali_lists.proofs.Lists.{set_same, get_set}
use Rattle.dali_record.specs.declared.records.Record.{Record}
use Rattle.dali_region.specs.declared.Hold.{Hold}
use Rattle.dali_region.specs.State.{RegionState}
use Rattle.dali_runs.specs.State.{CoreState, state_of, hold_in}
use Rattle.dali_runs.specs.Keeps.{with_region, IsFree}
use Rattle.dali_runs.specs.Regions.{RegionStep, Latch, NoteReads, Update, TakeBack, region_after, is_alive}
use Rattle.dali_runs.specs.Courses.{Step, Operates, OnRegion, IsStep}
use Rattle.dali_calls.specs.Operating.{IsHeldBy, IsOwn, Goes}
use Rattle.dali_calls.proofs.Operating.{steps_on, alone_of, held_of}
use Rattle.dali_calls.specs.Single.Single.{is_end, IsOwnStep, Look, look_behind, IsRightOn, LooksRight, LeadsFrom, Leads}

-- ---- looks
-- what the one found, the other found too
abbrev IsFoundBy : Look → Look → Type 0
IsFoundBy a b = (l : ℕ × RegionState) → a ≡ Some l → b ≡ Some l

found_on : (c : CoreState) (r : ℕ) (x : RegionStep) (a b : Look) → IsFoundBy a b → IsFoundBy (look_behind c (OnRegion r x) a) (look_behind c (OnRegion r x) b)
found_on c r (Latch u) a b found = λ l e. e
found_on c r _ a b found = found

found_behind : (c : CoreState) (x : Step) (a b : Look) → IsFoundBy a b → IsFoundBy (look_behind c x a) (look_behind c x b)
found_behind c (OnRegion r x) a b found = found_on c r x a b found
found_behind c _ a b found = found

right_too : (r : ℕ) (a b : Look) → IsFoundBy a b → IsRightOn r a → IsRightOn r b
right_too r None b found right = absurd right
right_too r (Some l) b found right = subst (IsRightOn r) (sym (found l refl)) right

looks_too : (precheck : Bool) (a b : Look) (x : Step) → IsFoundBy a b → LooksRight precheck a x → LooksRight precheck b x
looks_too precheck a b (Operates u k) found looks = λ e. right_too k.region a b found (looks e)
looks_too precheck a b _ found looks = tt

leads_found : (precheck : Bool) (t : ℕ) (a b : Look) (L M : List Record) (c d : CoreState) (xs : List Step) → IsFoundBy a b → LeadsFrom precheck t a L c xs M d → LeadsFrom precheck t b L c xs M d
leads_found precheck t a b L M c d [] found l = l
leads_found precheck t a b L M c d (x ∷ xs) found l =
    (l.0, l.1, (l.2.0, l.2.1, l.2.2, looks_too precheck a b x found l.2.3), leads_found precheck t (look_behind c x a) (look_behind c x b) l.0 M l.1 d xs (found_behind c x a b found) l.3)

none_found : (b : Look) → IsFoundBy None b
none_found b l e = absurd (cc)

-- ---- one behind another
leads_from : (precheck : Bool) (t : ℕ) (o : Look) (L K M : List Record) (c d e : CoreState) (xs ys : List Step) → LeadsFrom precheck t o L c xs K d → Leads precheck t K d ys M e → LeadsFrom precheck t o L c (xs ++ ys) M e
leads_from precheck t o L K M c d e [] ys p q =
    leads_found precheck t None o L M c e ys (none_found o) (subst (λ (l : List Record). Leads precheck t l c ys M e) (sym p.0) (subst (λ (x : CoreState). Leads precheck t K x ys M e) (sym p.1) q))
leads_from precheck t o L K M c d e (x ∷ xs) ys p q = (p.0, p.1, p.2, leads_from precheck t (look_behind c x o) p.0 K M p.1 d e xs ys p.3 q)

pub leads_on : (precheck : Bool) (t : ℕ) (L K M : List Record) (c d e : CoreState) (xs ys : List Step) → Leads precheck t L c xs K d → Leads precheck t K d ys M e → Leads precheck t L c (xs ++ ys) M e
leads_on precheck t L K M c d e xs ys p q = leads_from precheck t None L K M c d e xs ys p q

pub one_step : (precheck : Bool) (t : ℕ) (o : Look) (L M : List Record) (c d : CoreState) (x : Step) → IsStep L c x M d → IsOwnStep t c x → is_end x ≡ false → LooksRight precheck o x → LeadsFrom precheck t o L c (x ∷ []) M d
one_step precheck t o L M c d x s own quiet looks = (M, d, (s, own, quiet, looks), (refl, refl))

-- ---- on one region
set_again : (c : CoreState) (r : ℕ) (g h : RegionState) → with_region (with_region c r g) r h ≡ with_region c r h
set_again c r g h = ap (λ (gs : List RegionState). record { regions = gs; system = c.system; vault = c.vault }) (set-set c.regions r g h)

-- with steps behind them, which rest on what the latch of this region found
abbrev Found : Bool → ℕ → ℕ → RegionState → Look → Type 0
Found asks t r g o = IsHeldBy t g → asks ≡ true → IsRightOn r o

found_then : (asks : Bool) (t r : ℕ) (c : CoreState) (x : RegionStep) (g : RegionState) (o : Look) → slice_get c.regions r ≡ Some g → IsOwn t x g → (asks ≡ true → g.stray ≡ 0) → Found asks t r g o
    → Found asks t r (region_after x g) (look_behind c (OnRegion r x) o) × (asks ≡ true → (region_after x g).stray ≡ 0)
found_then asks t r c (Latch u) g o at own clean found = (λ held e. subst (λ (s : Option RegionState). IsRightOn r (option_map (λ (k : RegionState). (r, k)) s)) (sym at) (refl, clean e), clean)
found_then asks t r c (NoteReads mask) g o at own clean found = (λ held. found own, clean)
found_then asks t r c (Update word value) g o at own clean found = (λ held. found own, clean)
found_then asks t r c TakeBack g o at own clean found = (λ held. found own, clean)
found_then asks t r c x g o at own clean found = absurd own

leads_far : (precheck asks : Bool) (L M : List Record) (c d : CoreState) (t r : ℕ) (g h : RegionState) (o : Look) (xs : List RegionStep) (ys : List Step) → is_alive (state_of c.system t) ≡ true → slice_get c.regions r ≡ Some g → Goes t g xs h
    → (asks ≡ true → g.stray ≡ 0) → Found asks t r g o → ((l : Look) → Found asks t r h l → LeadsFrom precheck t l L (with_region c r h) ys M d) → LeadsFrom precheck t o L c (steps_on r xs ++ ys) M d
leads_far precheck asks L M c d t r g h o [] ys a at go clean found rest =
    subst (λ (k : CoreState). LeadsFrom precheck t o L k ys M d) (ap (λ (gs : List RegionState). record { regions = gs; system = c.system; vault = c.vault }) (set_same c.regions r h (at ∙ ap Some go))) (rest o (subst (λ (k : RegionState). Found asks t r k o) go found))
leads_far precheck asks L M c d t r g h o (x ∷ xs) ys a at go clean found rest =
    let next = region_after x g in
    let now = found_then asks t r c x g o at go.1 clean found in (
      L,
      with_region c r next,
      ((g, at, (go.0, alone_of c.system t x g a go.1), (refl, refl)), subst (λ (s : Option RegionState). IsSomeAnd s (IsOwn t x)) (sym at) go.1, refl, tt),
      leads_far precheck asks L M (with_region c r next) d t r next h (look_behind c (OnRegion r x) o) xs ys a (get_set c.regions r g next at) go.2 now.1 now.0
          (λ l f. subst (λ (k : CoreState). LeadsFrom precheck t l L k ys M d) (sym (set_again c r next h)) (rest l f)),
    )

pub leads_looked : (precheck asks : Bool) (L M : List Record) (c d : CoreState) (t r : ℕ) (g h : RegionState) (xs : List RegionStep) (x : Step) → is_alive (state_of c.system t) ≡ true → slice_get c.regions r ≡ Some g → Goes t g xs h
    → (IsHeldBy t g → ⊥) → IsHeldBy t h → (asks ≡ true → g.stray ≡ 0)
    → ((o : Look) → (asks ≡ true → IsRightOn r o) → LeadsFrom precheck t o L (with_region c r h) (x ∷ []) M d) → Leads precheck t L c (steps_on r xs ++ x ∷ []) M d
leads_looked precheck asks L M c d t r g h xs x a at go free held clean rest =
    leads_far precheck asks L M c d t r g h None xs (x ∷ []) a at go clean (λ own. absurd (free own)) (λ l f. rest l (f held))

pub leads_there : (precheck : Bool) (L : List Record) (c : CoreState) (t r : ℕ) (g h : RegionState) (xs : List RegionStep) → is_alive (state_of c.system t) ≡ true → slice_get c.regions r ≡ Some g → Goes t g xs h → Leads precheck t L c (steps_on r xs) L (with_region c r h)
leads_there precheck L c t r g h xs a at go =
    subst (λ (ys : List Step). Leads precheck t L c ys L (with_region c r h)) (append-nil (steps_on r xs))
    (leads_far precheck false L L c (with_region c r h) t r g h None xs [] a at go (λ e. absurd (cc)) (λ held e. absurd (cc)) (λ l f. (refl, refl)))

-- ---- a region without a hold
pub stays_free : (c d : CoreState) (t r : ℕ) (g h : RegionState) → IsFree c t → slice_get c.regions r ≡ Some g → h.hold ≡ None → d.regions ≡ slice_set c.regions r h → IsFree d t
stays_free c d t r g h free at none is q o held = free q o (held_of c.regions r g h q o at none (ap (λ (rs : List RegionState). hold_in (slice_get rs q)) (sym is) ∙ held)).1

-- it isn't latched for who has none latched
unheld_in : (t : ℕ) (o : Option Hold) → ((h : Hold) → o ≡ Some h → (h.txn == t) ≡ false) → IsSomeAnd o (λ h. (h.txn ≡ t) × (h.dead ≡ false)) → ⊥
unheld_in t None others held = held
unheld_in t (Some h) others held = let no : (h.txn == t) ≡ false = others h refl in let own : (h.txn == t) ≡ true = (Decides-eqb h.txn t).1 held.0 in let both : true ≡ false = sym own ∙ no in absurd (cc)

pub free_unheld : (c : CoreState) (t r : ℕ) (g : RegionState) → IsFree c t → slice_get c.regions r ≡ Some g → IsHeldBy t g → ⊥
free_unheld c t r g free at held = unheld_in t g.hold (λ h e. free r h (ap hold_in at ∙ e)) held
