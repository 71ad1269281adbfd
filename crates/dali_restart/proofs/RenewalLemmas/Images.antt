-- An image that was written whole.
use Rattle.std.proofs.Common.{◌≡◌, ℕ, ◌+◌, ◌-◌, List, ◌++◌, length, drop, Option, Some, None, IfSome, refl, ap, sym, ◌∙◌, append_assoc, arith}
use Rattle.std.specs.Prelude.{flat_map}
use Rattle.dali_bytes.specs.Fields.{number32}
use Rattle.dali_record.specs.Spelling.{words_bytes}
use Rattle.dali_region.specs.declared.Side.{Side}
use Rattle.dali_region.specs.declared.Side.TheVariants.{A, B}
use Rattle.dali_store.specs.declared.store.FileName.{FileName}
use Rattle.dali_store.specs.Calls.{fewer}
use Rattle.dali_store.specs.Store.{Files, file_of, HoldsIn}
use Rattle.dali_crash.specs.Disks.Disks.{CanBeImage, IsImageOf, image_bytes, image_file, image_name}
use Rattle.dali_image.specs.Headers.{heading}
use Rattle.dali_image.specs.declared.header.Header.{Header}
use Rattle.dali_image.proofs.OneHeader.{headers_are_bytes}
use Rattle.dali_restart.specs.Renewal.Written.{head_in, new_image, without_rows}

pub of_side : (side : Side) (fs : Files) → image_file side fs ≡ file_of (image_name side) fs
of_side A fs = refl
of_side B fs = refl

bytes_are : (h : Header) (rs : List (List ℕ)) → new_image h rs ≡ image_bytes h.geometry (head_in h) rs
unfolding number32
bytes_are h rs = append_assoc (heading (without_rows h)) (flat_map words_bytes rs) (number32 0) ∙ ap (λ l. l ++ (flat_map words_bytes rs ++ number32 0)) (headers_are_bytes h.geometry (head_in h))

pub image_held :
    (side : Side) (f : FileName) (h : Header) (rs : List (List ℕ)) (t u : Option Files) (may : Files → Type 0) → f ≡ image_name side
    → HoldsIn f 0 (new_image h rs) t u → IfSome u (λ fs. (c : Files) → may c → file_of f c ≡ file_of f fs)
    → IfSome t (λ _. CanBeImage h.geometry (head_in h) rs → (c : Files) → may c → IsImageOf h.geometry (image_file side c) (head_in h) rs)
image_held side f h rs None u may name holds held = tt
image_held side f h rs (Some fs) None may name holds held = absurd holds
image_held side f h rs (Some fs) (Some gs) may name holds held = λ fits c is. record {
  fits = fits;
  rest = drop (0 + length (new_image h rs)) (file_of f fs);
  spells = of_side side c ∙ (ap (λ (g : FileName). file_of g c) (sym name) ∙ (held c is ∙ (holds.0 ∙ ap (λ l. l ++ drop (0 + length (new_image h rs)) (file_of f fs)) (bytes_are h rs))));
}

pub fewer_none : (t : Option ℕ) → t ≡ fewer 0 t
fewer_none None = refl
fewer_none (Some n) = ap (λ (k : ℕ). Some k) (let e : n ≡ n - 0 = omega arith in e)
