-- How the history of a store goes on by one event, and what each call has to say of it.
use Rattle.std.specs.Prelude.{◌<◌, ◌≡◌, ◌⊎◌, ℕ, ◌+◌, ◌≤◌, max}
use Rattle.std.specs.Prelude.{List, [], ◌∷◌, ◌++◌, length, take, drop, Some, refl, false, not, ◌==◌}
use Rattle.std.proofs.Common.{sym, ◌∙◌, ap, subst, arith, inl, inr, ⊎_elim, length-append, append_assoc}
use Rattle.std.proofs.lemmas.Bool.Decides.{nat_tests}
use Rattle.std.proofs.lemmas.List.{take_all, take-append-le, take_at, drop_at, length-take-le}
use Rattle.dali_store.specs.Store.{Files, file_of, Torn, TornIn, TornTold, Follows, Elapses, HoldsIn, Only}
use Rattle.dali_store.specs.declared.store.FileName.{FileName}
use Rattle.dali_memstore.specs.declared.disks.Disks.{Disks}
use Rattle.dali_memstore.specs.declared.event.Event.{Event}
use Rattle.dali_memstore.specs.declared.event.Event.TheVariants.{Wrote, Synced, Cut}
use Rattle.dali_memstore.specs.State.{written, wrote, waits}
use Rattle.dali_memstore.specs.Memory.{disk_of, apply, replay, begun, starts_of}
use Rattle.dali_memstore.specs.Memory.{History, push, disks, Happened, seen_of, IsCrash, LeftSince, waits_of}
use Rattle.dali_memstore.specs.Sound.{AllSound, length-written, replay_sound, sound}
use Rattle.dali_memstore.specs.Laws.{seen_crash}
use Rattle.dali_memstore.proofs.Crashes.{wrote_follows, synced_fewer, synced_only, cut_fewer, cut_only}
use Rattle.dali_memstore.proofs.Crashes.{seen_file, wrote_seen, kept_seen, same_but, synced_quiet, all_quiet}

-- files that are what a history makes of them are sound
pub replayed_sound : (events : List Event) (ds : Disks) → ds ≡ replay events (begun (starts_of ds)) → AllSound ds
replayed_sound events ds is = subst AllSound (sym is) (replay_sound events (starts_of ds))

-- one event more
pub replay_push : (events : List Event) (event : Event) (ds : Disks)
    → replay (events ++ event ∷ []) ds ≡ apply event (replay events ds)
replay_push [] event ds = refl
replay_push (e ∷ events) event ds = replay_push events event (apply e ds)

disks_push : (h new : History) (event : Event) → new ≡ push event h → disks new ≡ apply event (disks h)
disks_push h new event is = ap disks is ∙ replay_push h.events event (begun h.start)

pub happened_push : (event : Event) (h new : History) → new ≡ push event h → Happened event h new
happened_push event h new is = record { files = disks_push h new event is; past = inr is }

-- where nothing waits for a sync, a sync and a cut happen by doing nothing
pub quiet_sync : (f : FileName) (h : History) → waits (disk_of f (disks h)) ≡ 0 → Happened (Synced f) h h
quiet_sync f h none = record { files = synced_quiet f (disks h) (sound h) none; past = inl refl }

pub quiet_cut : (choice : ℕ) (h : History) → waits_of (disks h) ≡ 0 → Happened (Cut choice) h h
quiet_cut choice h none = record { files = sym (all_quiet choice (disks h) (sound h) none); past = inl refl }

pub not_waiting : (n : ℕ) → false ≡ not (n == 0) → n ≡ 0
not_waiting n shut = grind (arith, nat_tests)

-- time: from one history to another
abbrev pub Passes : History → History → Type 0
Passes h new = Elapses (length h.events) (length new.events) (LeftSince h) (LeftSince new) (IsCrash (disks new))

pub elapses_same : (h new : History) → new ≡ h → Passes h new
elapses_same h new same = record {
  later = omega (arith, ap (λ (g : History). length g.events) same);
  nothing_else = λ t c le left. inl (subst (λ (g : History). LeftSince g t c) same left);
  keeps = λ t c le left. subst (λ (g : History). LeftSince g t c) (sym same) left;
}

elapses_more : (h : History) (event : Event) → Passes h (push event h)
elapses_more h event = record {
  later = omega (arith, size);
  nothing_else = λ t c le left. ⊎_elim (λ old. inl (left.0, left.1, old, crash_of c (shorter left.0 old) left.3))
      (λ new. inr (crash_of c (take_all left.0 (push event h).events (omega (arith, new, size))) left.3))
      (le_or_gt left.0 (length h.events));
  keeps = λ t c le left. (left.0, left.1, omega (arith, left.2, size), crash_of c (sym (shorter left.0 left.2)) left.3);
}
  where
    size : length (push event h).events ≡ length h.events + 1
    size = length-append h.events (event ∷ [])

    shorter : (k : ℕ) → k ≤ length h.events → take k (push event h).events ≡ take k h.events
    shorter k le = take-append-le k h.events (event ∷ []) le

    crash_of : {old new : List Event} (c : Files)
        → old ≡ new → IsCrash (replay old (begun h.start)) c → IsCrash (replay new (begun h.start)) c
    crash_of c same left = subst (λ (es : List Event). IsCrash (replay es (begun h.start)) c) same left

    le_or_gt : (a b : ℕ) → (a ≤ b) ⊎ (b < a)
    le_or_gt a b = grind arith

pub elapses_push : (h new : History) (event : Event) → new ≡ push event h → Passes h new
elapses_push h new event is = subst (Passes h) (sym is) (elapses_more h event)

pub elapses_happened : (event : Event) (h new : History) → Happened event h new → Passes h new
elapses_happened event h new happened = ⊎_elim (elapses_same h new) (elapses_push h new event) happened.past

-- a write that changed nothing
torn_same : (at n : ℕ) (bytes : List ℕ) → Torn at n bytes bytes
torn_same at n bytes = record { before = refl; after = refl; no_shorter = omega arith; no_longer = omega arith }

pub torn_told : (f : FileName) (at n : ℕ) (h new : History)
    → new ≡ h → TornTold f at n (Some (seen_of (disks h))) (Some (seen_of (disks new)))
torn_told f at n h new is =
    subst (λ (g : History). TornTold f at n (Some (seen_of (disks h))) (Some (seen_of (disks g)))) (sym is)
    (record { torn = torn_same at n (file_of f (seen_of (disks h))); same = λ g other. refl })

pub torn_crash : (f : FileName) (at n : ℕ) (h new : History)
    → new ≡ h → Follows (TornIn f at n) (IsCrash (disks h)) (IsCrash (disks new))
torn_crash f at n h new is c left = (
  c,
  subst (λ (g : History). IsCrash (disks g) c) is left,
  record { torn = torn_same at n (file_of f c); same = λ g other. refl },
)

-- a write
pub wrote_law : (f : FileName) (at : ℕ) (bytes : List ℕ) (h new : History) → new ≡ push (Wrote f at bytes) h
    → HoldsIn f at bytes (Some (seen_of (disks h))) (Some (seen_of (disks new)))
wrote_law f at bytes h new is =
    subst (λ (ds : Disks). HoldsIn f at bytes (Some (seen_of (disks h))) (Some (seen_of ds)))
    (sym (disks_push h new (Wrote f at bytes) is))
    (wrote_seen f at bytes (disks h), same_but f (wrote at bytes (disk_of f (disks h))) (disks h))

pub wrote_crash : (f : FileName) (at : ℕ) (bytes : List ℕ) (h new : History)
    → at ≤ length (file_of f (seen_of (disks h))) → new ≡ push (Wrote f at bytes) h
    → Follows (TornIn f at (length bytes)) (IsCrash (disks h)) (IsCrash (disks new))
wrote_crash f at bytes h new le is =
    subst (λ (ds : Disks). Follows (TornIn f at (length bytes)) (IsCrash (disks h)) (IsCrash ds))
    (sym (disks_push h new (Wrote f at bytes) is))
    (wrote_follows f at bytes (disks h) (sound h) (omega (arith, le, ap length (seen_file f (disks h)))))

torn_written : (at : ℕ) (bytes old : List ℕ) → at ≤ length old → Torn at (length bytes) old (written at bytes old)
torn_written at bytes old le = record {
  before = ap (λ (l : List ℕ). take at l) joined ∙ take_at (take at old) (bytes ++ rest) at front;
  after = drop_at (take at old ++ bytes) rest (at + length bytes) (omega (arith, front, length-append (take at old) bytes));
  no_shorter = omega (arith, size);
  no_longer = omega (arith, size);
}
  where
    rest : List ℕ
    rest = drop (at + length bytes) old

    size : length (written at bytes old) ≡ max (length old) (at + length bytes)
    size = length-written at bytes old le

    front : length (take at old) ≡ at
    front = length-take-le at old le

    joined : written at bytes old ≡ take at old ++ (bytes ++ rest)
    joined = append_assoc (take at old) bytes rest

pub wrote_torn : (f : FileName) (at : ℕ) (bytes : List ℕ) (h new : History)
    → at ≤ length (file_of f (seen_of (disks h))) → new ≡ push (Wrote f at bytes) h
    → TornTold f at (length bytes) (Some (seen_of (disks h))) (Some (seen_of (disks new)))
wrote_torn f at bytes h new le is = record {
  torn =
      subst (Torn at (length bytes) (file_of f (seen_of (disks h)))) (sym wrote_is.0)
      (torn_written at bytes (file_of f (seen_of (disks h))) le);
  same = wrote_is.1;
}
  where
    wrote_is : HoldsIn f at bytes (Some (seen_of (disks h))) (Some (seen_of (disks new)))
    wrote_is = wrote_law f at bytes h new is

-- a sync
pub synced_told : (f : FileName) (h new : History)
    → Happened (Synced f) h new → seen_of (disks new) ≡ seen_of (disks h)
synced_told f h new happened = ap seen_of happened.files ∙ kept_seen f (disks h)

pub synced_crash : (f : FileName) (h new : History)
    → Happened (Synced f) h new → (c : Files) → IsCrash (disks new) c → IsCrash (disks h) c
synced_crash f h new happened c left =
    synced_fewer f (disks h) (sound h) c (subst (λ (ds : Disks). IsCrash ds c) happened.files left)

pub synced_durable : (f : FileName) (h new : History)
    → Happened (Synced f) h new → (c : Files) → IsCrash (disks new) c
    → file_of f c ≡ file_of f (seen_of (disks h))
synced_durable f h new happened c left =
    synced_only f (disks h) c (subst (λ (ds : Disks). IsCrash ds c) happened.files left) ∙ sym (seen_file f (disks h))

-- a cut
pub cut_chosen : (choice : ℕ) (h new : History)
    → Happened (Cut choice) h new → Some (seen_of (disks new)) ≡ Some (seen_of (apply (Cut choice) (disks h)))
cut_chosen choice h new happened = ap (λ (ds : Disks). Some (seen_of ds)) happened.files

pub cut_crash : (choice : ℕ) (h new : History)
    → Happened (Cut choice) h new → (c : Files) → IsCrash (disks new) c → IsCrash (disks h) c
cut_crash choice h new happened c left =
    cut_fewer choice (disks h) (sound h) c (subst (λ (ds : Disks). IsCrash ds c) happened.files left)

pub cut_told : (choice : ℕ) (h new : History) → Happened (Cut choice) h new → IsCrash (disks h) (seen_of (disks new))
cut_told choice h new happened =
    cut_crash choice h new happened (seen_of (disks new)) (seen_crash (disks new) (sound new))

pub cut_durable : (choice : ℕ) (h new : History)
    → Happened (Cut choice) h new → Only (seen_of (disks new)) (IsCrash (disks new))
cut_durable choice h new happened c left =
    cut_only choice (disks h) c (subst (λ (ds : Disks). IsCrash ds c) happened.files left) ∙ sym (ap seen_of happened.files)
