-- What a pass over a disk's log begins with, and what it comes to.
use Rattle.std.proofs.Common.{◌≡◌, ◌⊎◌, inl, inr, ⊎_elim, ℕ, ◌+◌, ◌<◌, ◌^◌, List, [], ◌∷◌, ◌++◌, map, Option, Some, None, IfSome, refl, ap, sym, subst, arith, rules}
use Rattle.std.specs.Prelude.{Contains}
use Rattle.std.proofs.lemmas.List.{map-append}
use Rattle.std.proofs.lemmas.List.Elements.{Contains-append_right}
use Rattle.dali_geometry.specs.Sizes.{Sizes}
use Rattle.dali_att.specs.Table.{Table}
use Rattle.dali_record.specs.declared.operations.Pending.{Pending}
use Rattle.dali_record.specs.Blocks.{AllAreWords}
use Rattle.dali_record.specs.Damage.{Damage}
use Rattle.dali_record.specs.Files.{Files}
use Rattle.dali_store.specs.declared.store.FileName.{FileName}
use Rattle.dali_store.specs.declared.store.FileName.TheVariants.{Log}
use Rattle.dali_store.specs.Store.{Files as Disk, Only}
use Rattle.dali_log.specs.Stream.{Reading, IsReadFrom}
use Rattle.dali_image.specs.declared.header.Header.{Header}
use Rattle.dali_resume.specs.Onward.{going_at}
use Rattle.dali_recovery.specs.Standing.{Stands, Starts}
use Rattle.dali_recovery.specs.declared.recovery.Damage.{Damage as Told}
use Rattle.dali_recovery.specs.declared.recovery.Recovery.{Recovery}
use Rattle.dali_recovery.proofs.Whole.{begins_behind}
use Rattle.dali_recovery.specs.Reload.Reading.{IsAtImage, IsBadAt, Reloads}
use Rattle.dali_recovery.specs.Reload.Scanning.{Finds, told_of}
use Rattle.dali_recovery.specs.declared.reload.reading.Reloaded.{Reloaded}
use Rattle.dali_recovery.specs.declared.reload.error.ReloadError.{ReloadError}
use Rattle.dali_recovery.specs.declared.reload.error.ReloadError.TheVariants as reloads
use Rattle.dali_recovery.proofs.ReloadLemmas.Passes.{finds_later}
use Rattle.dali_restart.specs.declared.error.RestartError.TheVariants as errors
use Rattle.dali_restart.specs.declared.restarting.Base.{Base}
use Rattle.dali_restart.specs.Causes.{reload_error}
use Rattle.dali_restart.specs.Deciding.{AreKnown, FindsNext, IsInRoom, IsBase, IsBegunIn, IsReadIn}
use Rattle.dali_restart.specs.Opening.{IsInRange, IsOpened}
use Rattle.dali_restart.specs.Restarting.{BeginsAt, IsBadAnywhere}
use Rattle.dali_restart.proofs.Once.{opens_once}
use Rattle.dali_restart.proofs.Started.{are_started}

-- ---- errors
pub reload_bad : (e : ReloadError) (file : FileName) (at : ℕ) → reload_error e ≡ errors.BadStore file at → (file ≡ Log) × (e ≡ reloads.BadLog at)
reload_bad reloads.Fault file at h = absurd cc
reload_bad (reloads.BadLog bad) file at h = (let is : file ≡ Log = cc in is, let is : bad ≡ at = cc in ap reloads.BadLog is)
reload_bad reloads.Unscanned file at h = absurd cc
reload_bad reloads.OutOfMemory file at h = absurd cc

-- ---- an image
module _ (fs : Disk) (s : Sizes) (c : ℕ) (h : Header) (image : List (List ℕ)) (m : Table Pending) (r : Reading) (x : Recovery) (opened : IsOpened fs s c h image m r) (range : IsInRange s h image m)
    (words : AllAreWords image)
    (stands : (F : Files) → F.first ≡ h.first → F.next ≡ h.next → F.image ≡ image → Starts F m → Stands s h.first x (going_at F)) (plain : x.scan ≡ None) where
  abbrev here : Base
  here = record { geometry = s; current = c; header = h }

  at_image : (z : Sizes) (F : Files) → BeginsAt fs z F → IsBase z F here × IsAtImage fs.log z F r x
  at_image z F begins =
      let one = (opens_once fs s c h image m r opened words).1 z F begins in
      let first : F.first ≡ h.first = sym (ap (λ (k : Header). k.first) one.header) in
      let next : F.next ≡ h.next = sym (ap (λ (k : Header). k.next) one.header) in
      let place : h.place ≡ F.place = ap (λ (k : Header). k.place) one.header in
      let starts : Starts F m = subst (Starts F) (sym one.table) (are_started z F begins.rows (omega (arith, first, range.first.0))) in
      let there : Stands s h.first x (going_at F) = stands F first next (sym one.image_is) starts in (
        record { geometry = one.sizes; current = one.gates; header = one.header },
        record {
          first = omega (arith, first, range.first.1);
          read = subst (λ (p : ℕ). IsReadFrom fs.log p [] [] r) place opened.reader;
          behind = begins_behind z F x (subst (λ (y : Sizes). Stands y F.first x (going_at F)) one.sizes (subst (λ (n : ℕ). Stands s n x (going_at F)) (sym first) there));
          plain = plain;
        },
      )

  pub begun_in : (may : Disk → Type 0) → Only fs may → IsBegunIn fs may here r x
  begun_in may only =
      let some = (opens_once fs s c h image m r opened words).0 in record { files = some.0; begins = some.1; at_image = at_image; only = only }

pub has_room : (s : Sizes) (c : ℕ) (h : Header) (image : List (List ℕ)) (m : Table Pending) → IsInRange s h image m → c < 2 ^ 62 → IsInRoom (record { geometry = s; current = c; header = h })
has_room s c h image m range small = record { geometry = range.geometry; current = small; first = range.first; weight = range.weight }

-- ---- a pass
module _ (fs : Disk) (may : Disk → Type 0) (b : Base) (r : Reading) (x : Recovery) (begun : IsBegunIn fs may b r x) where
  pub read_in : (new : Disk → Type 0) (o : Reloaded) → ((c : Disk) → new c → may c) → Reloads fs.log r x o → IsReadIn fs new (record { base = b; reloaded = o })
  read_in new o crash reloads = record {
    files = begun.files;
    begins = begun.begins;
    reads = λ s F begins. ((begun.at_image s F begins).0, reloads s F (begun.at_image s F begins).1);
    only = λ c left. begun.only c (crash c left);
  }

  pub finds_next : (ds : List Told) (d : Told) → IsInRoom b → Finds fs.log r x ds d → FindsNext fs ds d
  finds_next ds d room finds = record {
    sizes = b.geometry;
    files = begun.files;
    begins = begun.begins;
    first = λ s F begins. let e : b.header.first ≡ F.first = ap (λ (k : Header). k.first) (begun.at_image s F begins).0.header in omega (arith, e, room.first.0);
    finds = λ s F begins found. finds s F (begun.at_image s F begins).1 found;
  }

  pub tail_bad : (file : FileName) (at : ℕ) → file ≡ Log → IsBadAt fs.log r x at → IsBadAnywhere fs file at
  tail_bad file at name bad = inr (record { sizes = b.geometry; files = begun.files; image = begun.begins; name = name; bad = bad b.geometry begun.files (begun.at_image b.geometry begun.files begun.begins).1 })

-- ---- the damages that are known
pub nothing_known : (fs : Disk) → AreKnown fs [] 0
nothing_known fs s F begins = (inl refl, inl refl)

pub one_more_known : (fs : Disk) (ds : List Told) (d : Told) (last : ℕ) → AreKnown fs ds last → FindsNext fs ds d → AreKnown fs (ds ++ d ∷ []) d.first
one_more_known fs ds d last known next s F begins =
    let es = map told_of ds in
    let all : map told_of (ds ++ d ∷ []) ≡ es ++ told_of d ∷ [] = map-append told_of ds (d ∷ []) in
    let there : Contains (es ++ told_of d ∷ []) (told_of d) = Contains-append_right es (told_of d ∷ []) (told_of d) (search rules) in (
      inr (record { earlier = es; last = told_of d; all = all; found = next.finds s F begins (known s F begins).0 }),
      inr (told_of d, subst (λ (l : List Damage). Contains l (told_of d)) (sym all) there, refl),
    )

-- so each pass comes further
pub comes_further : (fs : Disk) (ds : List Told) (d : Told) (last : ℕ) → AreKnown fs ds last → FindsNext fs ds d → last < d.first
comes_further fs ds d last known next =
    let begins = next.begins in
    let here = known next.sizes next.files begins in
    let later = finds_later fs.log next.sizes next.files (map told_of ds) (told_of d) (next.finds next.sizes next.files begins here.0) in
    ⊎_elim (λ none. omega (arith, none, next.first next.sizes next.files begins, later.0)) (λ some. omega (arith, some.2, later.1 some.0 some.1)) here.1

-- a store that tells its contents would be at odds
pub none_told : {A : Type 0} (P : A → Type 0) (o : Option A) → IfSome o P → ((x : A) → P x → ⊥) → o ≡ None
none_told P None p no_one = refl
none_told P (Some x) p no_one = absurd (no_one x p)
