-- What is so of a file of a store by its key.
use Rattle.std.specs.Prelude.{◌≡◌, ◌≢◌, ◌≤◌, ℕ, Bool, false, List, length, Option, Some, None, IfSome, is_some, Result, IfOk, refl}
use Rattle.std.specs.Option.{ForSome}
use Rattle.std.proofs.Common.{sym, ◌∙◌, ap, subst, Ok, Err}
use Rattle.dali_store.specs.Store.{Files, file_of, Torn, Holds, ReadsAt, HoldsIn as HoldsFile, TornIn as TornFile, TornTold as TornFiles, SameBut as SameFiles, Follows as FilesFollow}
use Rattle.dali_store.specs.Drops.{LogStays}
use Rattle.dali_store.specs.declared.store.FileName.{FileName}
use Rattle.dali_store.specs.declared.store.FileName.TheVariants.{Log, ImageA, ImageB, Anchor}
use Rattle.dali_files.specs.Files.{Contents, SameBut, HoldsIn, TornIn, TornTold, Follows}
use Rattle.dali_files.specs.Keys.{IsKey}
use Rattle.dali_files.specs.declared.key.FileKey.{FileKey}
use Rattle.dali_files.specs.declared.key.FileKey.TheVariants.{ImageA as KeyA, ImageB as KeyB, Anchor as KeyAnchor, Segment}
use Rattle.dali_segments.specs.Images.{key_for}
use Rattle.dali_segments.specs.Segments.{mark, is_dropped, piece, log_of, store_of, told_of, Leaves, LeavesWhere, IsReady, IsHeld, IsSound, droppable_of}
use Rattle.dali_segments.specs.Laws.{Shorter}
use Rattle.dali_segments.proofs.Joins.{joined_same}
use Rattle.dali_segments.proofs.Logs.{piece_same, no_segment}
use Rattle.dali_segments.proofs.Parts.{torn_same}
use Rattle.dali_segments.proofs.Helds.{sound_at}

none_some : {A : Type 0} (x : A) → None ≡ Some x → ⊥
none_some x e = cc

some_same : {A : Type 0} (x y : A) → Some x ≡ Some y → x ≡ y
some_same x y e = cc

some_none : {A : Type 0} (x : A) → Some x ≡ None → ⊥
some_none x e = cc

pub image_key : (file : FileName) (key : FileKey) → key_for file ≡ Some key → IsKey key
image_key Log key is = absurd (none_some key is)
image_key ImageA key is = subst (λ (k : FileKey). IsKey k) (some_same KeyA key is) tt
image_key ImageB key is = subst (λ (k : FileKey). IsKey k) (some_same KeyB key is) tt
image_key Anchor key is = subst (λ (k : FileKey). IsKey k) (some_same KeyAnchor key is) tt

pub image_of : (size : ℕ) (file : FileName) (key : FileKey) → key_for file ≡ Some key → (fs : Contents) → file_of file (store_of size fs) ≡ fs key
image_of size Log key is fs = absurd (none_some key is)
image_of size ImageA key is fs = subst (λ (k : FileKey). fs KeyA ≡ fs k) (some_same KeyA key is) refl
image_of size ImageB key is fs = subst (λ (k : FileKey). fs KeyB ≡ fs k) (some_same KeyB key is) refl
image_of size Anchor key is fs = subst (λ (k : FileKey). fs KeyAnchor ≡ fs k) (some_same KeyAnchor key is) refl

pub log_is : (file : FileName) → key_for file ≡ None → file ≡ Log
log_is Log is = refl
log_is ImageA is = absurd (some_none KeyA is)
log_is ImageB is = absurd (some_none KeyB is)
log_is Anchor is = absurd (some_none KeyAnchor is)

pub image_told : (size : ℕ) (file : FileName) (key : FileKey) → key_for file ≡ Some key → (P : List ℕ → Type 0) (told : Option Contents)
    → IfSome told (λ fs. P (fs key)) → IfSome (told_of size told) (λ fs. P (file_of file fs))
image_told size file key is P None so = tt
image_told size file key is P (Some fs) so = subst P (sym (image_of size file key is fs)) so

pub log_told : (file : FileName) → key_for file ≡ None → (P : List ℕ → Type 0) (told : Option Files)
    → IfSome told (λ fs. P fs.log) → IfSome told (λ fs. P (file_of file fs))
log_told file is P None so = tt
log_told file is P (Some fs) so = subst (λ (f : FileName). P (file_of f fs)) (sym (log_is file is)) so

-- of an image a crash leaves what reads give
pub image_durable : (size : ℕ) (file : FileName) (key : FileKey) → key_for file ≡ Some key → (old new : Option Contents) (left : Contents → Type 0) → new ≡ old
    → IfSome old (λ fs. (c : Contents) → left c → c key ≡ fs key)
    → IfSome (told_of size old) (λ fs. (c : Files) → LeavesWhere size new left c → file_of file c ≡ file_of file fs)
image_durable size file key is None new left same so = tt
image_durable size file key is (Some fs) new left same so =
    λ c left_there. each c (subst (λ (t : Option Contents). LeavesWhere size t left c) same left_there)
  where
    each : (c : Files) → Leaves size left c → file_of file c ≡ file_of file (store_of size fs)
    each c left_there =
        subst (λ (x : Files). file_of file x ≡ file_of file (store_of size fs)) (sym left_there.2)
        (
        subst (λ (l : List ℕ). l ≡ file_of file (store_of size fs)) (sym (image_of size file key is left_there.0))
        (subst (λ (l : List ℕ). left_there.0 key ≡ l) (sym (image_of size file key is fs)) (so left_there.0 left_there.1))
        )

pub log_left : (file : FileName) → key_for file ≡ None → (told : Option Files) (left : Files → Type 0)
    → IfSome told (λ fs. (c : Files) → left c → c.log ≡ fs.log) → IfSome told (λ fs. (c : Files) → left c → file_of file c ≡ file_of file fs)
log_left file is None left so = tt
log_left file is (Some fs) left so = λ c out. subst (λ (f : FileName). file_of f c ≡ file_of f fs) (sym (log_is file is)) (so c out)

-- a write to an image
module _ (size : ℕ) (file : FileName) (key : FileKey) (is : key_for file ≡ Some key) where
  pub image_segment : (n : ℕ) → Segment n ≢ key
  image_segment n same = by_file file is
    where
      by_file : (f : FileName) → key_for f ≡ Some key → ⊥
      by_file Log is = none_some key is
      by_file ImageA is = no_segment KeyA n refl (some_same KeyA key is ∙ sym same)
      by_file ImageB is = no_segment KeyB n refl (some_same KeyB key is ∙ sym same)
      by_file Anchor is = no_segment KeyAnchor n refl (some_same KeyAnchor key is ∙ sym same)

  pub image_marks : (d x : Contents) → SameBut key d x → length (x mark) ≡ length (d mark)
  image_marks d x same = ap (λ (l : List ℕ). length l) (same mark (image_segment 4095))

  pub image_piece : (d x : Contents) → SameBut key d x → (n : ℕ) → piece size x n ≡ piece size d n
  image_piece d x same n = piece_same size d x n (image_marks d x same) (same (Segment n) (image_segment n))

  image_log : (d x : Contents) → SameBut key d x → log_of size x ≡ log_of size d
  image_log d x same = joined_same size (λ n. piece size d n) (λ n. piece size x n) 0 4095 (λ n from lt. image_piece d x same n)

  other_key : (g : FileName) (other : FileKey) → key_for g ≡ Some other → g ≢ file → other ≢ key
  other_key g other named differs same = differs (one_name g file key (named ∙ ap (λ (k : FileKey). Some k) same) is)
    where
      one_name : (a b : FileName) (k : FileKey) → key_for a ≡ Some k → key_for b ≡ Some k → a ≡ b
      one_name Log b k one two = absurd (none_some k one)
      one_name a Log k one two = absurd (none_some k two)
      one_name ImageA ImageA k one two = refl
      one_name ImageA ImageB k one two = absurd cc
      one_name ImageA Anchor k one two = absurd cc
      one_name ImageB ImageA k one two = absurd cc
      one_name ImageB ImageB k one two = refl
      one_name ImageB Anchor k one two = absurd cc
      one_name Anchor ImageA k one two = absurd cc
      one_name Anchor ImageB k one two = absurd cc
      one_name Anchor Anchor k one two = refl

  pub image_others : (d x : Contents) → SameBut key d x → SameFiles file (store_of size d) (store_of size x)
  image_others d x same Log differs = image_log d x same
  image_others d x same ImageA differs = same KeyA (other_key ImageA KeyA refl differs)
  image_others d x same ImageB differs = same KeyB (other_key ImageB KeyB refl differs)
  image_others d x same Anchor differs = same KeyAnchor (other_key Anchor KeyAnchor refl differs)

  image_torn : (at m : ℕ) (d x : Contents) → TornIn key at m d x → TornFile file at m (store_of size d) (store_of size x)
  image_torn at m d x torn = record {
    torn = subst (λ (l : List ℕ). Torn at m l (file_of file (store_of size x))) (sym (image_of size file key is d))
        (subst (λ (l : List ℕ). Torn at m (d key) l) (sym (image_of size file key is x)) torn.torn);
    same = image_others d x torn.same;
  }

  torn_file_same : (at m : ℕ) (x : Files) → TornFile file at m x x
  torn_file_same at m x = record { torn = torn_same at m (file_of file x); same = λ g differs. refl }

  pub image_torn_told : (at m : ℕ) (old new : Option Contents) → TornTold key at m old new → TornFiles file at m (told_of size old) (told_of size new)
  image_torn_told at m None None torn = refl
  image_torn_told at m None (Some ns) torn = absurd cc
  image_torn_told at m (Some fs) None torn = absurd torn
  image_torn_told at m (Some fs) (Some ns) torn = image_torn at m fs ns torn

  pub image_crash : (at m : ℕ) (old new : Option Contents) (a b : Contents → Type 0) → TornTold key at m old new → Follows (TornIn key at m) a b
      → FilesFollow (TornFile file at m) (LeavesWhere size old a) (LeavesWhere size new b)
  image_crash at m None new a b torn follows x left = (x, tt, torn_file_same at m x)
  image_crash at m (Some fs) None a b torn follows x left = absurd torn
  image_crash at m (Some fs) (Some ns) a b torn follows x left =
      let was = follows left.0 left.1 in (
        store_of size was.0,
        (was.0, was.1, refl),
        subst (λ (y : Files). TornFile file at m (store_of size was.0) y) (sym left.2) (image_torn at m was.0 left.0 was.2),
      )

  pub image_holds : (at : ℕ) (bytes : List ℕ) (old new : Option Contents) → HoldsIn key at bytes old new → HoldsFile file at bytes (told_of size old) (told_of size new)
  image_holds at bytes None None holds = refl
  image_holds at bytes None (Some ns) holds = absurd cc
  image_holds at bytes (Some fs) None holds = absurd holds
  image_holds at bytes (Some fs) (Some ns) holds = (
    subst (λ (l : List ℕ). Holds l at bytes (file_of file (store_of size ns))) (sym (image_of size file key is fs))
        (subst (λ (l : List ℕ). Holds (fs key) at bytes l) (sym (image_of size file key is ns)) holds.0),
    image_others fs ns holds.1,
  )

  pub image_place : (at : ℕ) (told : Option Contents) → IfSome (told_of size told) (λ fs. at ≤ length (file_of file fs)) → IfSome told (λ fs. at ≤ length (fs key))
  image_place at None le = tt
  image_place at (Some fs) le = subst (λ (l : List ℕ). at ≤ length l) (image_of size file key is fs) le

  pub image_reads : (at n : ℕ) (before after : List ℕ) (told : Option Contents) → IfSome told (λ fs. ReadsAt (fs key) at before n after) → IfSome (told_of size told) (λ fs. ReadsAt (file_of file fs) at before n after)
  image_reads at n before after told reads = image_told size file key is (λ l. ReadsAt l at before n after) told reads

  pub image_sound : (lost : Bool) (last dropped settled at m : ℕ) (old new : Option Contents) (a b : Contents → Type 0) (ga gb : FileKey → Type 0)
      → ForSome old (λ fs. IsSound lost size last dropped settled a ga fs) → TornTold key at m old new → Follows (TornIn key at m) a b → ((g : FileKey) → gb g → ga g)
      → IfSome new (λ fs. b fs) → IfSome new (λ fs. Shorter b gb fs) → ForSome new (λ fs. IsSound lost size last dropped settled b gb fs)
  image_sound lost last dropped settled at m old new a b ga gb sound torn follows less now shorter =
      sound_at lost size last dropped settled new b gb now shorter (by_told old new sound torn)
    where
      held : IsHeld size a ga → IsHeld size b gb
      held was = record {
        images = (λ g. was.images.0 (less KeyA g), (λ g. was.images.1.0 (less KeyB g), λ g. was.images.1.1 (less KeyAnchor g)));
        marked = λ g. was.marked (less mark g);
        small = λ x out n lt. let d = follows x out in
            subst (λ (l : List ℕ). length l ≤ size) (sym (image_piece d.0 x d.2.same n)) (was.small d.0 d.1 n lt);
        behind = λ x out n lt g kept full. let d = follows x out in
            was.behind d.0 d.1 n lt (less (Segment n) g)
            (ap (λ (k : ℕ). is_dropped k n) (sym (image_marks d.0 x d.2.same)) ∙ kept)
            (λ k under. ap (λ (l : List ℕ). length l) (sym (image_piece d.0 x d.2.same k)) ∙ full k under);
      }

      ready : (fs ns : Contents) → SameBut key fs ns → IsReady size last dropped settled a ga fs → IsReady size last dropped settled b gb ns
      ready fs ns same was = record {
        marked = image_marks fs ns same ∙ was.marked;
        full = λ n lt. ap (λ (l : List ℕ). length l) (image_piece fs ns same n) ∙ was.full n lt;
        ends = subst (λ (l : List ℕ). length l ≤ size) (sym (image_piece fs ns same last)) was.ends;
        none = λ n above lt. image_piece fs ns same n ∙ was.none n above lt;
        same_mark = λ x out. let d = follows x out in image_marks d.0 x d.2.same ∙ was.same_mark d.0 d.1;
        settled_same = λ x out n lt. let d = follows x out in image_piece d.0 x d.2.same n ∙ was.settled_same d.0 d.1 n lt ∙ sym (image_piece fs ns same n);
        none_left = λ x out n above lt. let d = follows x out in image_piece d.0 x d.2.same n ∙ was.none_left d.0 d.1 n above lt;
        stays = λ n above lt g. was.stays n above lt (less (Segment n) g);
        first = λ g. was.first (less (Segment 0) g);
      }

      by_told : (o n : Option Contents) → ForSome o (λ fs. IsSound lost size last dropped settled a ga fs) → TornTold key at m o n
          → IfSome n (λ fs. IsHeld size b gb × (lost ≡ false → IsReady size last dropped settled b gb fs))
      by_told None None sound torn = tt
      by_told None (Some ns) sound torn = absurd cc
      by_told (Some fs) None sound torn = absurd torn
      by_told (Some fs) (Some ns) sound torn = (held (sound fs refl).held, λ found. ready fs ns torn.same ((sound fs refl).ready found))

-- as much can be dropped as before
pub stays_droppable : (size dropped now_size now_dropped : ℕ) → now_size ≡ size → now_dropped ≡ dropped → (told : Option Files)
    → IfSome told (λ fs. LogStays (length fs.log) (λ below. droppable_of size dropped below) (λ below. droppable_of now_size now_dropped below))
stays_droppable size dropped now_size now_dropped sizes drops None = tt
stays_droppable size dropped now_size now_dropped sizes drops (Some fs) = λ place le.
    ap (λ (s : ℕ). droppable_of s now_dropped place) sizes ∙ ap (λ (d : ℕ). droppable_of size d place) drops

pub log_place : (file : FileName) → key_for file ≡ None → (at : ℕ) (told : Option Files) → IfSome told (λ fs. at ≤ length (file_of file fs)) → IfSome told (λ fs. at ≤ length fs.log)
log_place file is at None le = tt
log_place file is at (Some fs) le = subst (λ (f : FileName). at ≤ length (file_of f fs)) (log_is file is) le

pub torn_tells : (file : FileName) (at n : ℕ) (old new : Option Files) → TornFiles file at n old new → is_some new ≡ is_some old
torn_tells file at n None None torn = refl
torn_tells file at n None (Some ns) torn = absurd cc
torn_tells file at n (Some fs) None torn = absurd torn
torn_tells file at n (Some fs) (Some ns) torn = refl

pub if_ok : {T E : Type 0} (P Q : T → Type 0) (r : Result T E) → ((x : T) → P x → Q x) → IfOk r P → IfOk r Q
if_ok P Q (Ok x) f is = f x is
if_ok P Q (Err e) f is = tt
