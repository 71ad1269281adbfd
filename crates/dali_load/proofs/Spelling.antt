-- What reading comes to is what the lines spell.
use Rattle.std.proofs.Common.{◌≡◌, ◌⊎◌, inl, inr, ℕ, ◌+◌, true, false, List, [], ◌∷◌, ◌++◌, Option, Some, None, Result, Ok, Err, IfOk, IsOkAnd, refl, sym, ◌∙◌, ap, subst, append_assoc, append-nil}
use Rattle.std.specs.Prelude.{filter_map}
use Rattle.std.specs.List.{enumerate_from, cons_option}
use Rattle.dali_listing.specs.declared.Listed.{Listed}
use Rattle.dali_script.specs.Faults.{◌>>=◌}
use Rattle.dali_script.specs.Lines.{lines_of, command_in, command_lines}
use Rattle.dali_script.specs.Reading.{Fault, in_line, Gives}
use Rattle.dali_script.specs.declared.faults.Kind.{Kind}
use Rattle.dali_script.specs.declared.faults.Kind.TheVariants as kind
use Rattle.dali_script.specs.declared.faults.ScriptError.{ScriptError}
use Rattle.dali_script.specs.declared.faults.ScriptError.TheVariants as error
use Rattle.dali_load.specs.Rows.{Line, verdict, Reads, IsEnding, Spelled, IsWrong}
use Rattle.dali_load.specs.Reading.{State, at_start, says, told, read_words, read_lines, outcome}

-- ---- the lines that have words
abbrev read_commands : List Line → State → Result State Fault
read_commands [] s = Ok s
read_commands (l ∷ ls) s = in_line l.0 (says l.1 s) >>= λ said. read_commands ls (told said s)

abbrev commands_from : ℕ → List (List ℕ) → List Line
commands_from n lines = filter_map (λ l. command_in l.0 l.1) (enumerate_from n lines)

bind_same : {A B E : Type 0} (r : Result A E) (f g : A → Result B E) → ((x : A) → f x ≡ g x) → (r >>= f) ≡ (r >>= g)
bind_same (Ok x) f g same = same x
bind_same (Err e) f g same = refl

bind_assoc : {A B C E : Type 0} (r : Result A E) (f : A → Result B E) (g : B → Result C E) → ((r >>= f) >>= g) ≡ (r >>= λ x. f x >>= g)
bind_assoc (Ok x) f g = refl
bind_assoc (Err e) f g = refl

by_command : (o : Option Line) (rest : List Line) (s : State) (f : State → Result State Fault) → ((t : State) → f t ≡ read_commands rest t) → (read_words o s >>= f) ≡ read_commands (cons_option o rest) s
by_command None rest s f same = same s
by_command (Some l) rest s f same = bind_assoc (in_line l.0 (says l.1 s)) (λ said. Ok (told said s)) f ∙ bind_same (in_line l.0 (says l.1 s)) (λ said. f (told said s)) (λ said. read_commands rest (told said s)) (λ said. same (told said s))

lines_are_commands : (n : ℕ) (lines : List (List ℕ)) (s : State) → read_lines n lines s ≡ read_commands (commands_from n lines) s
lines_are_commands n [] s = refl
lines_are_commands n (line ∷ lines) s = by_command (command_in n line) (commands_from (n + 1) lines) s (λ t. read_lines (n + 1) lines t) (λ t. lines_are_commands (n + 1) lines t)

abbrev rows_in : Result State Fault → Result (List Listed) Fault
rows_in r = r >>= λ s. Ok s.rows

outcome_is : (bytes : List ℕ) → outcome bytes ≡ rows_in (read_commands (command_lines bytes) at_start)
outcome_is bytes = ap rows_in (lines_are_commands 1 (lines_of bytes) at_start)

-- ---- the two kinds of states
abbrev going : List Listed → State
going rows = record { rows = rows; ended = false }

abbrev closed : List Listed → State
closed rows = record { rows = rows; ended = true }

closed_ok : (ls : List Line) (rows : List Listed) (t : State) → read_commands ls (closed rows) ≡ Ok t → (ls ≡ []) × (t.rows ≡ rows)
closed_ok [] rows t e = let same : closed rows ≡ t = cc in (refl, ap (λ (s : State). s.rows) (sym same))
closed_ok (l ∷ ls) rows t e = absurd (cc)

record StandsBehind (ls : List Line) (n : ℕ) (fault : Kind) : Type 0 where
  words : List (List ℕ)
  behind : List Line
  split : ls ≡ (n, words) ∷ behind
  placed : fault ≡ kind.Place

closed_err : (ls : List Line) (rows : List Listed) (n : ℕ) (fault : Kind) → read_commands ls (closed rows) ≡ Err (n, fault) → StandsBehind ls n fault
closed_err [] rows n fault e = absurd (cc)
closed_err (l ∷ ls) rows n fault e =
    let both : (l.0, kind.Place) ≡ (n, fault) = cc in
    record { words = l.1; behind = ls; split = ap (λ (p : ℕ × Kind). (p.0, l.1) ∷ ls) both; placed = ap (λ (p : ℕ × Kind). p.1) (sym both) }

-- ---- rows are given where they are spelled
record Came (before : List Listed) (ls : List Line) (all : List Listed) : Type 0 where
  lines : List Line
  ending : List Line
  rows : List Listed
  split : ls ≡ lines ++ ending
  reads : Reads before lines rows
  ends : IsEnding (before ++ rows) ending
  all_are : all ≡ before ++ rows

came : (ls : List Line) (before : List Listed) (t : State) → read_commands ls (going before) ≡ Ok t → Came before ls t.rows
came [] before t e =
    let same : going before ≡ t = cc in
    record { lines = []; ending = []; rows = []; split = refl; reads = tt; ends = tt; all_are = ap (λ (s : State). s.rows) (sym same) ∙ sym (append-nil before) }
came (l ∷ ls) before t e = by_verdict (λ row f. came ls (before ++ row ∷ []) t f) (verdict before l.1) refl e
  where
    by_verdict : ((row : Listed) → read_commands ls (going (before ++ row ∷ [])) ≡ Ok t → Came (before ++ row ∷ []) ls t.rows)
        → (v : Result (Option Listed) Kind) → verdict before l.1 ≡ v → (in_line l.0 v >>= λ said. read_commands ls (told said (going before))) ≡ Ok t → Came before (l ∷ ls) t.rows
    by_verdict again (Err k) is f = absurd (cc)
    by_verdict again (Ok (Some row)) is f =
        let rest = again row f in
        let joined : (before ++ row ∷ []) ++ rest.rows ≡ before ++ (row ∷ rest.rows) = append_assoc before (row ∷ []) rest.rows in
        record {
          lines = l ∷ rest.lines;
          ending = rest.ending;
          rows = row ∷ rest.rows;
          split = ap (λ (xs : List Line). l ∷ xs) rest.split;
          reads = (is, rest.reads);
          ends = subst (λ (all : List Listed). IsEnding all rest.ending) joined rest.ends;
          all_are = rest.all_are ∙ joined;
        }
    by_verdict again (Ok None) is f =
        let end = closed_ok ls before t f in
        record {
          lines = [];
          ending = l ∷ [];
          rows = [];
          split = ap (λ (xs : List Line). l ∷ xs) end.0;
          reads = tt;
          ends = subst (λ (all : List Listed). verdict all l.1 ≡ Ok None) (sym (append-nil before)) is;
          all_are = end.1 ∙ sym (append-nil before);
        }

bind_ok : (r : Result State Fault) (rows : List Listed) → rows_in r ≡ Ok rows → (t : State) × (r ≡ Ok t) × (t.rows ≡ rows)
bind_ok (Ok t) rows e = (t, refl, cc)
bind_ok (Err x) rows e = absurd (cc)

bind_err : (r : Result State Fault) (x : Fault) → rows_in r ≡ Err x → r ≡ Err x
bind_err (Ok t) x e = absurd (cc)
bind_err (Err y) x e = let same : y ≡ x = cc in ap Err same

spelled : (bytes : List ℕ) (rows : List Listed) → outcome bytes ≡ Ok rows → Spelled bytes rows
spelled bytes rows e =
    let read = bind_ok (read_commands (command_lines bytes) at_start) rows (sym (outcome_is bytes) ∙ e) in
    let c = came (command_lines bytes) [] read.0 read.1 in
    subst (λ (all : List Listed). Spelled bytes all) (sym c.all_are ∙ read.2)
    (record { lines = c.lines; ending = c.ending; split = c.split; reads = c.reads; ends = c.ends })

follows : (ls more : List Line) (before rows : List Listed) → Reads before ls rows → read_commands (ls ++ more) (going before) ≡ read_commands more (going (before ++ rows))
follows [] more before [] h = ap (λ (rs : List Listed). read_commands more (going rs)) (sym (append-nil before))
follows [] more before (row ∷ rows) h = absurd h
follows (l ∷ ls) more before [] h = absurd h
follows (l ∷ ls) more before (row ∷ rows) h =
    ap (λ (v : Result (Option Listed) Kind). in_line l.0 v >>= λ said. read_commands (ls ++ more) (told said (going before))) h.0
    ∙ follows ls more (before ++ row ∷ []) rows h.1
    ∙ ap (λ (rs : List Listed). read_commands more (going rs)) (append_assoc before (row ∷ []) rows)

ending_is : (rows : List Listed) (ending : List Line) → IsEnding rows ending → (t : State) × (read_commands ending (going rows) ≡ Ok t) × (t.rows ≡ rows)
ending_is rows [] h = (going rows, refl, refl)
ending_is rows (l ∷ []) h = (closed rows, ap (λ (v : Result (Option Listed) Kind). in_line l.0 v >>= λ said. Ok (told said (going rows))) h, refl)
ending_is rows (l ∷ m ∷ ls) h = absurd h

only : (bytes : List ℕ) (rows : List Listed) → Spelled bytes rows → outcome bytes ≡ Ok rows
only bytes rows h =
    let end = ending_is rows h.ending h.ends in
    outcome_is bytes
    ∙ ap (λ (ls : List Line). rows_in (read_commands ls at_start)) h.split
    ∙ ap rows_in (follows h.lines h.ending [] rows h.reads ∙ end.1)
    ∙ ap Ok end.2

-- ---- a fault is told where a line is the first wrong one
record AtNoRow (before : List Listed) (ls : List Line) (n : ℕ) (fault : Kind) : Type 0 where
  front : List Line
  words : List (List ℕ)
  behind : List Line
  split : ls ≡ front ++ (n, words) ∷ behind
  rows : List Listed
  reads : Reads before front rows
  refused : verdict (before ++ rows) words ≡ Err fault

record AtEnd (before : List Listed) (ls : List Line) (n : ℕ) (fault : Kind) : Type 0 where
  front : List Line
  end : Line
  words : List (List ℕ)
  behind : List Line
  split : ls ≡ front ++ end ∷ (n, words) ∷ behind
  rows : List Listed
  reads : Reads before front rows
  ends : verdict (before ++ rows) end.1 ≡ Ok None
  placed : fault ≡ kind.Place

abbrev Stops : List Listed → List Line → ℕ → Kind → Type 0
Stops before ls n fault = AtNoRow before ls n fault ⊎ AtEnd before ls n fault

further : (l : Line) (ls : List Line) (before : List Listed) (row : Listed) (n : ℕ) (fault : Kind) → verdict before l.1 ≡ Ok (Some row) → Stops (before ++ row ∷ []) ls n fault → Stops before (l ∷ ls) n fault
further l ls before row n fault is (inl h) = inl (record {
  front = l ∷ h.front;
  words = h.words;
  behind = h.behind;
  split = ap (λ (xs : List Line). l ∷ xs) h.split;
  rows = row ∷ h.rows;
  reads = (is, h.reads);
  refused = subst (λ (all : List Listed). verdict all h.words ≡ Err fault) (append_assoc before (row ∷ []) h.rows) h.refused;
})
further l ls before row n fault is (inr h) = inr (record {
  front = l ∷ h.front;
  end = h.end;
  words = h.words;
  behind = h.behind;
  split = ap (λ (xs : List Line). l ∷ xs) h.split;
  rows = row ∷ h.rows;
  reads = (is, h.reads);
  ends = subst (λ (all : List Listed). verdict all h.end.1 ≡ Ok None) (append_assoc before (row ∷ []) h.rows) h.ends;
  placed = h.placed;
})

stops : (ls : List Line) (before : List Listed) (n : ℕ) (fault : Kind) → read_commands ls (going before) ≡ Err (n, fault) → Stops before ls n fault
stops [] before n fault e = absurd (cc)
stops (l ∷ ls) before n fault e = by_verdict (λ row f. stops ls (before ++ row ∷ []) n fault f) (verdict before l.1) refl e
  where
    by_verdict : ((row : Listed) → read_commands ls (going (before ++ row ∷ [])) ≡ Err (n, fault) → Stops (before ++ row ∷ []) ls n fault)
        → (v : Result (Option Listed) Kind) → verdict before l.1 ≡ v → (in_line l.0 v >>= λ said. read_commands ls (told said (going before))) ≡ Err (n, fault) → Stops before (l ∷ ls) n fault
    by_verdict again (Err k) is f =
        let both : (l.0, k) ≡ (n, fault) = cc in
        inl (record {
          front = [];
          words = l.1;
          behind = ls;
          split = ap (λ (p : ℕ × Kind). (p.0, l.1) ∷ ls) both;
          rows = [];
          reads = tt;
          refused = subst (λ (all : List Listed). verdict all l.1 ≡ Err fault) (sym (append-nil before)) (is ∙ ap (λ (p : ℕ × Kind). Err p.1) both);
        })
    by_verdict again (Ok (Some row)) is f = further l ls before row n fault is (again row f)
    by_verdict again (Ok None) is f =
        let at = closed_err ls before n fault f in
        inr (record {
          front = [];
          end = l;
          words = at.words;
          behind = at.behind;
          split = ap (λ (xs : List Line). l ∷ xs) at.split;
          rows = [];
          reads = tt;
          ends = subst (λ (all : List Listed). verdict all l.1 ≡ Ok None) (sym (append-nil before)) is;
          placed = at.placed;
        })

wrong : (bytes : List ℕ) (n : ℕ) (fault : Kind) → outcome bytes ≡ Err (n, fault) → IsWrong bytes n fault
wrong bytes n fault e = by_place (stops (command_lines bytes) [] n fault (bind_err (read_commands (command_lines bytes) at_start) (n, fault) (sym (outcome_is bytes) ∙ e)))
  where
    by_place : Stops [] (command_lines bytes) n fault → IsWrong bytes n fault
    by_place (inl h) = inl (record { before = h.front; words = h.words; behind = h.behind; split = h.split; rows = h.rows; reads = h.reads; refused = h.refused })
    by_place (inr h) = inr (record { before = h.front; end = h.end; words = h.words; behind = h.behind; split = h.split; rows = h.rows; reads = h.reads; ends = h.ends; placed = h.placed })

refused : (bytes : List ℕ) (n : ℕ) (fault : Kind) → IsWrong bytes n fault → outcome bytes ≡ Err (n, fault)
refused bytes n fault (inl h) =
    outcome_is bytes
    ∙ ap (λ (ls : List Line). rows_in (read_commands ls at_start)) h.split
    ∙ ap rows_in (follows h.before ((n, h.words) ∷ h.behind) [] h.rows h.reads)
    ∙ ap (λ (v : Result (Option Listed) Kind). rows_in (in_line n v >>= λ said. read_commands h.behind (told said (going h.rows)))) h.refused
refused bytes n fault (inr h) =
    outcome_is bytes
    ∙ ap (λ (ls : List Line). rows_in (read_commands ls at_start)) h.split
    ∙ ap rows_in (follows h.before (h.end ∷ (n, h.words) ∷ h.behind) [] h.rows h.reads)
    ∙ ap (λ (v : Result (Option Listed) Kind). rows_in (in_line h.end.0 v >>= λ said. read_commands ((n, h.words) ∷ h.behind) (told said (going h.rows)))) h.ends
    ∙ ap (λ (k : Kind). Err (n, k)) (sym h.placed)

-- ---- what the reader gives
module _ {A : Type 0} (bytes : List ℕ) (view : A → List Listed) where
  pub given_spelled : (r : Result A ScriptError) → Gives view r (outcome bytes) → IfOk r (λ x. Spelled bytes (view x))
  given_spelled (Ok x) h = spelled bytes (view x) h
  given_spelled (Err e) h = tt

  pub given_only : (r : Result A ScriptError) → Gives view r (outcome bytes) → (rows : List Listed) → Spelled bytes rows → IsOkAnd r (λ x. view x ≡ rows) ⊎ (r ≡ Err error.OutOfMemory)
  given_only (Ok x) h rows is = let e : outcome bytes ≡ Ok rows = only bytes rows is in let same : view x ≡ rows = cc in inl same
  given_only (Err (error.BadLine n k)) h rows is = let e : outcome bytes ≡ Ok rows = only bytes rows is in absurd (cc)
  given_only (Err error.OutOfMemory) h rows is = inr refl

  pub given_wrong : (r : Result A ScriptError) → Gives view r (outcome bytes) → (n : ℕ) (fault : Kind) → r ≡ Err (error.BadLine n fault) → IsWrong bytes n fault
  given_wrong (Ok x) h n fault e = absurd (cc)
  given_wrong (Err (error.BadLine m k)) h n fault e =
      let number : m ≡ n = cc in
      let kind : k ≡ fault = cc in
      wrong bytes n fault (h ∙ ap (λ (i : ℕ). Err (i, k)) number ∙ ap (λ (f : Kind). Err (n, f)) kind)
  given_wrong (Err error.OutOfMemory) h n fault e = absurd (cc)

  pub given_refused : (r : Result A ScriptError) → Gives view r (outcome bytes) → (n : ℕ) (fault : Kind) → IsWrong bytes n fault → (r ≡ Err (error.BadLine n fault)) ⊎ (r ≡ Err error.OutOfMemory)
  given_refused (Ok x) h n fault is = let e : outcome bytes ≡ Err (n, fault) = refused bytes n fault is in absurd (cc)
  given_refused (Err (error.BadLine m k)) h n fault is =
      let e : outcome bytes ≡ Err (n, fault) = refused bytes n fault is in
      let both : (m, k) ≡ (n, fault) = cc in
      inl (ap (λ (p : ℕ × Kind). Err (error.BadLine p.0 p.1)) both)
  given_refused (Err error.OutOfMemory) h n fault is = inr refl

pub one_reading : (bytes : List ℕ) (rows others : List Listed) → Spelled bytes rows → Spelled bytes others → rows ≡ others
one_reading bytes rows others is also =
    let e : outcome bytes ≡ Ok rows = only bytes rows is in
    let f : outcome bytes ≡ Ok others = only bytes others also in
    cc
