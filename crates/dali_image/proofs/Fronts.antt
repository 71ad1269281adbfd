-- What was read at the beginning of a file, as what the file says.
use Rattle.std.proofs.Common.{◌≡◌, ℕ, ◌≤◌, List, ◌++◌, length, take, drop, ap, sym, ◌∙◌, inl, inr, arith, append_assoc, length-take, take-append-drop}
use Rattle.std.proofs.lemmas.List.{take-take}
use Rattle.dali_bytes.specs.Fields.{number32}
use Rattle.dali_crash.specs.Disks.Disks.{mark}
use Rattle.dali_image.specs.Headers.{heading, HasHeading, NoHeading}
use Rattle.dali_image.specs.declared.header.Header.{Header}

pub begins : (file bytes : List ℕ) (h : Header) → bytes ≡ take 64 file → bytes ≡ heading h → HasHeading file h
begins file bytes h read is = (drop 64 file, sym (take-append-drop 64 file) ∙ ap (λ l. l ++ drop 64 file) (sym read ∙ is))

pub begins_badly : (file bytes : List ℕ) (at : ℕ) → 64 ≤ length file → bytes ≡ take 64 file → NoHeading bytes at → NoHeading file at
begins_badly file bytes at long read (inl (zero_at, inl short)) = absurd (omega (arith, long, short, ap length read, length-take 64 file))
begins_badly file bytes at long read (inl (zero_at, inr unmarked)) = inl (zero_at, inr (λ e. unmarked (ap (take 8) read ∙ (take-take 8 64 file (omega arith) ∙ e))))
begins_badly file bytes at long read (inr (eight, size, (s, rest, e, li, lh, out))) =
    let more = drop 64 file in
    let whole : file ≡ (mark ++ (number32 s.index ++ (number32 s.heap ++ rest))) ++ more = sym (take-append-drop 64 file) ∙ ap (λ l. l ++ more) (sym read ∙ e) in
    let split : file ≡ mark ++ (number32 s.index ++ (number32 s.heap ++ (rest ++ more))) =
    whole ∙ (append_assoc mark (number32 s.index ++ (number32 s.heap ++ rest)) more ∙ ap (λ l. mark ++ l) (append_assoc (number32 s.index) (number32 s.heap ++ rest) more ∙ ap (λ l. number32 s.index ++ l) (append_assoc (number32 s.heap) rest more))) in
    inr (eight, long, (s, rest ++ more, split, li, lh, out))
