-- The outcome of reading is the script that bytes spell, or the first line that is wrong.
use Rattle.std.proofs.Common.{◌≡◌, ℕ, ◌+◌, true, false, List, [], ◌∷◌, ◌++◌, length, Option, Some, None, refl, ap, sym, subst, ◌∙◌, append_assoc, ◌⊎◌, inl, inr}
use Rattle.std.specs.Prelude.{Result, Ok, Err, IfOk, flat_map}
use Rattle.std.specs.List.{filter_map, enumerate_from, cons_option}
use Rattle.std.proofs.lemmas.List.{append-nil}
use Rattle.dali_script.specs.Lines.{lines_of, command_in, command_lines}
use Rattle.dali_script.specs.Faults.{◌>>=◌}
use Rattle.dali_script.specs.Places.{is_in_block}
use Rattle.dali_script.specs.Grammar.{Context, start, verdict, Reads, lines_of_block, lines_of_script, IsGrouped, IsSpelled, IsWrongLine, HasNoCommand, IsUnended, IsWrong}
use Rattle.dali_script.specs.Reading.{State, at_start, context_of, taken, ended, Fault, in_line, read_command, read_lines, finish_at, finished, outcome, Gives}
use Rattle.dali_script.specs.declared.faults.ScriptError.{ScriptError}
use Rattle.dali_script.specs.declared.faults.ScriptError.TheVariants as error
use Rattle.dali_script.specs.declared.faults.Kind.{Kind}
use Rattle.dali_script.specs.declared.faults.Kind.TheVariants as kind
use Rattle.dali_script.specs.declared.items.Item.{Item}
use Rattle.dali_script.specs.declared.places.Place.{Place}
use Rattle.dali_script.specs.declared.places.Place.TheVariants as place
use Rattle.dali_script.specs.declared.commands.Command.{Command}
use Rattle.dali_script.proofs.Verdicts.{bind_ok, right_stands, stands}
use Rattle.dali_script.proofs.Steps.{IsSound, context_taken, lines_so_far, lines_taken, lines-ended, open_lines}
use Rattle.dali_script.proofs.Grouping.{sound_taken, grouped_ended, never_at_start, one_grouping}

abbrev Lines : Type 0
Lines = List (ℕ × List (List ℕ))

-- reading the lines that are commands
abbrev read_commands : Lines → State → Result State Fault
read_commands [] s = Ok s
read_commands (l ∷ ls) s = in_line l.0 (verdict (context_of s) l.1) >>= λ made. read_commands ls (taken l.0 made s)

abbrev commands_from : ℕ → List (List ℕ) → Lines
commands_from n lines = filter_map (λ l. command_in l.0 l.1) (enumerate_from n lines)

-- ---- results in a row
bind_same : {A B E : Type 0} (r : Result A E) (f g : A → Result B E) → ((x : A) → f x ≡ g x) → (r >>= f) ≡ (r >>= g)
bind_same (Ok x) f g same = same x
bind_same (Err e) f g same = refl

bind_assoc : {A B C E : Type 0} (r : Result A E) (f : A → Result B E) (g : B → Result C E) → ((r >>= f) >>= g) ≡ (r >>= λ x. f x >>= g)
bind_assoc (Ok x) f g = refl
bind_assoc (Err e) f g = refl

in_line_ok : {A : Type 0} (n : ℕ) (r : Result A Kind) (x : A) → in_line n r ≡ Ok x → r ≡ Ok x
in_line_ok n (Ok y) x e = let same : y ≡ x = cc in ap Ok same
in_line_ok n (Err k) x e = absurd (cc)

-- ---- the lines that are commands
by_command : (o : Option (ℕ × List (List ℕ))) (rest : Lines) (s : State) (f : State → Result State Fault) → ((t : State) → f t ≡ read_commands rest t) → (read_command o s >>= f) ≡ read_commands (cons_option o rest) s
by_command None rest s f same = same s
by_command (Some l) rest s f same = bind_assoc (in_line l.0 (verdict (context_of s) l.1)) (λ made. Ok (taken l.0 made s)) f ∙ bind_same (in_line l.0 (verdict (context_of s) l.1)) (λ made. f (taken l.0 made s)) (λ made. read_commands rest (taken l.0 made s)) (λ made. same (taken l.0 made s))

lines_are_commands : (n : ℕ) (lines : List (List ℕ)) (s : State) → read_lines n lines s ≡ read_commands (commands_from n lines) s
lines_are_commands n [] s = refl
lines_are_commands n (line ∷ lines) s = by_command (command_in n line) (commands_from (n + 1) lines) s (λ t. read_lines (n + 1) lines t) (λ t. lines_are_commands (n + 1) lines t)

outcome_is : (bytes : List ℕ) → outcome bytes ≡ (read_commands (command_lines bytes) at_start >>= finished (length (lines_of bytes)))
outcome_is bytes = ap (λ (r : Result State Fault). r >>= finished (length (lines_of bytes))) (lines_are_commands 1 (lines_of bytes) at_start)

read_commands-append : (xs ys : Lines) (s : State) → read_commands (xs ++ ys) s ≡ (read_commands xs s >>= λ t. read_commands ys t)
read_commands-append [] ys s = refl
read_commands-append (l ∷ xs) ys s =
    bind_same (in_line l.0 (verdict (context_of s) l.1)) _ _ (λ made. read_commands-append xs ys (taken l.0 made s))
    ∙ sym (bind_assoc (in_line l.0 (verdict (context_of s) l.1)) (λ made. read_commands xs (taken l.0 made s)) (λ t. read_commands ys t))

-- ---- lines that are right are read
record Follows (s : State) (ls : Lines) (made : List Item) (d : Context) : Type 0 where
  state : State
  read : read_commands ls s ≡ Ok state
  context : context_of state ≡ d
  lines : lines_so_far state ≡ lines_so_far s ++ made
  sound : IsSound state

follows : (ls : Lines) (made : List Item) (s : State) (d : Context) → IsSound s → Reads (context_of s) ls made d → Follows s ls made d
follows [] [] s d sound h = record { state = s; read = refl; context = h; lines = sym (append-nil (lines_so_far s)); sound = sound }
follows [] (m ∷ made) s d sound h = absurd h
follows (l ∷ ls) [] s d sound h = absurd h
follows (l ∷ ls) (m ∷ made) s d sound h =
    let place = right_stands (context_of s) l.1 m h.0 in
    let rest = follows ls made (taken l.0 m s) d (sound_taken l.0 m s sound place) (subst (λ (c : Context). Reads c ls made d) (sym (context_taken l.0 m s place)) h.1) in
    record {
      state = rest.state;
      read = ap (λ (r : Result Item Kind). in_line l.0 r >>= λ x. read_commands ls (taken l.0 x s)) h.0 ∙ rest.read;
      context = rest.context;
      lines = rest.lines ∙ ap (λ (all : List Item). all ++ made) (lines_taken l.0 m s sound place) ∙ append_assoc (lines_so_far s) (m ∷ []) made;
      sound = rest.sound;
    }

-- ---- lines that are read are right
record IsRead (s t : State) (ls : Lines) : Type 0 where
  made : List Item
  reads : Reads (context_of s) ls made (context_of t)
  lines : lines_so_far t ≡ lines_so_far s ++ made
  sound : IsSound t

is_read : (ls : Lines) (s t : State) → IsSound s → read_commands ls s ≡ Ok t → IsRead s t ls
is_read [] s t sound h =
    let same : s ≡ t = cc in
    record { made = []; reads = ap context_of same; lines = ap lines_so_far (sym same) ∙ sym (append-nil (lines_so_far s)); sound = subst (λ (u : State). IsSound u) same sound }
is_read (l ∷ ls) s t sound h =
    let first = bind_ok (in_line l.0 (verdict (context_of s) l.1)) (λ x. read_commands ls (taken l.0 x s)) t h in
    let right = in_line_ok l.0 (verdict (context_of s) l.1) first.0 first.1 in
    let place = right_stands (context_of s) l.1 first.0 right in
    let rest = is_read ls (taken l.0 first.0 s) t (sound_taken l.0 first.0 s sound place) first.2 in
    record {
      made = first.0 ∷ rest.made;
      reads = (right, subst (λ (c : Context). Reads c ls rest.made (context_of t)) (context_taken l.0 first.0 s place) rest.reads);
      lines = rest.lines ∙ ap (λ (all : List Item). all ++ rest.made) (lines_taken l.0 first.0 s sound place) ∙ append_assoc (lines_so_far s) (first.0 ∷ []) rest.made;
      sound = rest.sound;
    }

-- ---- the first line that is wrong
record Stops (s : State) (ls : Lines) (n : ℕ) (fault : Kind) : Type 0 where
  before : Lines
  words : List (List ℕ)
  behind : Lines
  split : ls ≡ before ++ (n, words) ∷ behind
  lines : List Item
  context : Context
  reads : Reads (context_of s) before lines context
  refused : verdict context words ≡ Err fault

stops : (ls : Lines) (s : State) (n : ℕ) (fault : Kind) → IsSound s → read_commands ls s ≡ Err (n, fault) → Stops s ls n fault
stops [] s n fault sound h = absurd (cc)
stops (l ∷ ls) s n fault sound h = by_verdict (λ m place e. stops ls (taken l.0 m s) n fault (sound_taken l.0 m s sound place) e) (verdict (context_of s) l.1) refl
  where
    by_verdict : ((m : Item) → stands m s.place ≡ true → read_commands ls (taken l.0 m s) ≡ Err (n, fault) → Stops (taken l.0 m s) ls n fault) → (v : Result Item Kind) → verdict (context_of s) l.1 ≡ v → Stops s (l ∷ ls) n fault
    by_verdict later (Err k) e =
        let at : Err (l.0, k) ≡ Err (n, fault) = sym (ap (λ (r : Result Item Kind). in_line l.0 r >>= λ x. read_commands ls (taken l.0 x s)) e) ∙ h in
        let both : (l.0, k) ≡ (n, fault) = cc in
        let number : l.0 ≡ n = ap (λ (p : ℕ × Kind). p.0) both in
        let kind : k ≡ fault = ap (λ (p : ℕ × Kind). p.1) both in
        record { before = []; words = l.1; behind = ls; split = ap (λ (m : ℕ). (m, l.1) ∷ ls) number; lines = []; context = context_of s; reads = refl; refused = e ∙ ap Err kind }
    by_verdict later (Ok m) e =
        let rest_fails : read_commands ls (taken l.0 m s) ≡ Err (n, fault) = sym (ap (λ (r : Result Item Kind). in_line l.0 r >>= λ x. read_commands ls (taken l.0 x s)) e) ∙ h in
        let place = right_stands (context_of s) l.1 m e in
        let rest = later m place rest_fails in
        record {
          before = l ∷ rest.before;
          words = rest.words;
          behind = rest.behind;
          split = ap (λ (all : Lines). l ∷ all) rest.split;
          lines = m ∷ rest.lines;
          context = rest.context;
          reads = (e, subst (λ (c : Context). Reads c rest.before rest.lines rest.context) (context_taken l.0 m s place) rest.reads);
          refused = rest.refused;
        }

-- ---- the end
leaves_the_start : (ls : Lines) (s t : State) → (s.place ≡ place.Start → ⊥) → read_commands ls s ≡ Ok t → t.place ≡ place.Start → ⊥
leaves_the_start [] s t off h at = off (let same : s ≡ t = cc in ap (λ (u : State). u.place) same ∙ at)
leaves_the_start (l ∷ ls) s t off h at =
    let first = bind_ok (in_line l.0 (verdict (context_of s) l.1)) (λ x. read_commands ls (taken l.0 x s)) t h in
    let place = right_stands (context_of s) l.1 first.0 (in_line_ok l.0 (verdict (context_of s) l.1) first.0 first.1) in
    leaves_the_start ls (taken l.0 first.0 s) t (never_at_start first.0 s.place place) first.2 at

only_nothing_stays : (ls : Lines) (s t : State) → read_commands ls s ≡ Ok t → t.place ≡ place.Start → ls ≡ []
only_nothing_stays [] s t h at = refl
only_nothing_stays (l ∷ ls) s t h at =
    let first = bind_ok (in_line l.0 (verdict (context_of s) l.1)) (λ x. read_commands ls (taken l.0 x s)) t h in
    let place = right_stands (context_of s) l.1 first.0 (in_line_ok l.0 (verdict (context_of s) l.1) first.0 first.1) in
    absurd (leaves_the_start ls (taken l.0 first.0 s) t (never_at_start first.0 s.place place) first.2 at)

sound_at_start : IsSound at_start
sound_at_start = record { nothing = λ h. refl; grouped = tt; follows = λ blocks some. ((refl, some), tt) }

-- outside a block the lines so far are those of the script
lines_outside : (t : State) → is_in_block t.place ≡ false → lines_of_script (ended t.blocks t.commands) ≡ lines_so_far t
lines_outside t out =
    lines-ended t.blocks t.commands
    ∙ ap (λ ls. lines_of_script t.commands ++ ls) (sym (append-nil (flat_map lines_of_block t.blocks)))
    ∙ ap (λ b. lines_of_script t.commands ++ (flat_map lines_of_block t.blocks ++ open_lines b t.client t.steps)) (sym out)

finish_ok : (p : Place) (n : ℕ) (t : State) (s : List Command) → finish_at p n t ≡ Ok s → (p ≡ place.Outside) × (ended t.blocks t.commands ≡ s)
finish_ok place.Start n t s e = absurd (cc)
finish_ok place.Outside n t s e = (refl, cc)
finish_ok place.InBlock n t s e = absurd (cc)
finish_ok place.InTransaction n t s e = absurd (cc)

pub spelled : (bytes : List ℕ) (s : List Command) → outcome bytes ≡ Ok s → IsSpelled bytes s
spelled bytes s e =
    let n = length (lines_of bytes) in
    let read = bind_ok (read_commands (command_lines bytes) at_start) (finished n) s (sym (outcome_is bytes) ∙ e) in
    let t : State = read.0 in
    let end = finish_ok t.place n t s read.2 in
    let is = is_read (command_lines bytes) at_start t sound_at_start read.1 in
    let out : is_in_block t.place ≡ false = ap is_in_block end.0 in
    let lines : is.made ≡ lines_of_script s = sym is.lines ∙ sym (lines_outside t out) ∙ ap lines_of_script end.1 in
    record {
      end = context_of t;
      reads = subst (λ (made : List Item). Reads start (command_lines bytes) made (context_of t)) lines is.reads;
      outside = end.0;
      grouped = subst (λ (all : List Command). IsGrouped all) end.1 (grouped_ended t.blocks t.commands is.sound.grouped is.sound.follows);
    }

pub only : (bytes : List ℕ) (s : List Command) → IsSpelled bytes s → outcome bytes ≡ Ok s
only bytes s h =
    let n = length (lines_of bytes) in
    let f = follows (command_lines bytes) (lines_of_script s) at_start h.end sound_at_start h.reads in
    let t : State = f.state in
    let at : t.place ≡ place.Outside = ap (λ (c : Context). c.place) f.context ∙ h.outside in
    let out : is_in_block t.place ≡ false = ap is_in_block at in
    let lines : lines_of_script (ended t.blocks t.commands) ≡ lines_of_script s = lines_outside t out ∙ f.lines in
    let one : ended t.blocks t.commands ≡ s = one_grouping (ended t.blocks t.commands) s (grouped_ended t.blocks t.commands f.sound.grouped f.sound.follows) h.grouped lines in
    outcome_is bytes ∙ ap (λ (r : Result State Fault). r >>= finished n) f.read ∙ ap (λ (p : Place). finish_at p n t) at ∙ ap Ok one

-- what the end refuses
finish_fault : (p : Place) (k : ℕ) (t : State) (n : ℕ) (fault : Kind) → finish_at p k t ≡ Err (n, fault) → ((p ≡ place.Start) × (n ≡ k) × (fault ≡ kind.SizeOrOpenWanted)) ⊎ ((is_in_block p ≡ true) × (n ≡ t.opened) × (fault ≡ kind.Unended))
finish_fault place.Start k t n fault e = let both : (k, kind.SizeOrOpenWanted) ≡ (n, fault) = cc in inl (refl, ap (λ (p : ℕ × Kind). p.0) (sym both), ap (λ (p : ℕ × Kind). p.1) (sym both))
finish_fault place.Outside k t n fault e = absurd (cc)
finish_fault place.InBlock k t n fault e = let both : (t.opened, kind.Unended) ≡ (n, fault) = cc in inr (refl, ap (λ (p : ℕ × Kind). p.0) (sym both), ap (λ (p : ℕ × Kind). p.1) (sym both))
finish_fault place.InTransaction k t n fault e = let both : (t.opened, kind.Unended) ≡ (n, fault) = cc in inr (refl, ap (λ (p : ℕ × Kind). p.0) (sym both), ap (λ (p : ℕ × Kind). p.1) (sym both))

finish_inside : (p : Place) (k : ℕ) (t : State) → is_in_block p ≡ true → finish_at p k t ≡ Err (t.opened, kind.Unended)
finish_inside place.Start k t h = absurd (cc)
finish_inside place.Outside k t h = absurd (cc)
finish_inside place.InBlock k t h = refl
finish_inside place.InTransaction k t h = refl

pub wrong : (bytes : List ℕ) (n : ℕ) (fault : Kind) → outcome bytes ≡ Err (n, fault) → IsWrong bytes n fault
wrong bytes n fault e = by_read (read_commands ls at_start) refl (sym (outcome_is bytes) ∙ e)
  where
    ls : Lines
    ls = command_lines bytes

    by_end : (t : State) → read_commands ls at_start ≡ Ok t → (((t.place ≡ place.Start) × (n ≡ length (lines_of bytes)) × (fault ≡ kind.SizeOrOpenWanted)) ⊎ ((is_in_block t.place ≡ true) × (n ≡ t.opened) × (fault ≡ kind.Unended))) → IsWrong bytes n fault
    by_end t r (inl h) = inr (inl (record { none = only_nothing_stays ls at_start t r h.0; last = h.1; wanted = h.2 }))
    by_end t r (inr h) =
        let is = is_read ls at_start t sound_at_start r in
        inr (inr (record { lines = is.made; end = context_of t; reads = is.reads; inside = h.0; client = h.1; unended = h.2 }))

    by_read : (r : Result State Fault) → read_commands ls at_start ≡ r → (r >>= finished (length (lines_of bytes))) ≡ Err (n, fault) → IsWrong bytes n fault
    by_read (Ok t) is h = by_end t is (finish_fault t.place (length (lines_of bytes)) t n fault h)
    by_read (Err x) is h =
        let same : x ≡ (n, fault) = cc in
        let at = stops ls at_start n fault sound_at_start (is ∙ ap Err same) in
        inl (record { before = at.before; words = at.words; behind = at.behind; split = at.split; lines = at.lines; context = at.context; reads = at.reads; refused = at.refused })

wrong_line : (bytes : List ℕ) (n : ℕ) (fault : Kind) → IsWrongLine bytes n fault → outcome bytes ≡ Err (n, fault)
wrong_line bytes n fault h =
    let f = follows h.before h.lines at_start h.context sound_at_start h.reads in
    let rest : read_commands ((n, h.words) ∷ h.behind) f.state ≡ Err (n, fault) = ap (λ (c : Context). in_line n (verdict c h.words) >>= λ x. read_commands h.behind (taken n x f.state)) f.context ∙ ap (λ (r : Result Item Kind). in_line n r >>= λ x. read_commands h.behind (taken n x f.state)) h.refused in
    let all : read_commands (command_lines bytes) at_start ≡ Err (n, fault) = ap (λ (ls : Lines). read_commands ls at_start) h.split ∙ read_commands-append h.before ((n, h.words) ∷ h.behind) at_start ∙ ap (λ (r : Result State Fault). r >>= λ t. read_commands ((n, h.words) ∷ h.behind) t) f.read ∙ rest in
    outcome_is bytes ∙ ap (λ (r : Result State Fault). r >>= finished (length (lines_of bytes))) all

no_command : (bytes : List ℕ) (n : ℕ) (fault : Kind) → HasNoCommand bytes n fault → outcome bytes ≡ Err (n, fault)
no_command bytes n fault h = outcome_is bytes ∙ ap (λ (ls : Lines). read_commands ls at_start >>= finished (length (lines_of bytes))) h.none ∙ ap (λ (k : ℕ). Err (k, kind.SizeOrOpenWanted)) (sym h.last) ∙ ap (λ (k : Kind). Err (n, k)) (sym h.wanted)

unended : (bytes : List ℕ) (n : ℕ) (fault : Kind) → IsUnended bytes n fault → outcome bytes ≡ Err (n, fault)
unended bytes n fault h =
    let f = follows (command_lines bytes) h.lines at_start h.end sound_at_start h.reads in
    let t : State = f.state in
    let k = length (lines_of bytes) in
    let inside : is_in_block t.place ≡ true = ap (λ (c : Context). is_in_block c.place) f.context ∙ h.inside in
    let opened : t.opened ≡ n = ap (λ (c : Context). c.opened) f.context ∙ sym h.client in
    outcome_is bytes ∙ ap (λ (r : Result State Fault). r >>= finished k) f.read ∙ finish_inside t.place k t inside ∙ ap (λ (m : ℕ). Err (m, kind.Unended)) opened ∙ ap (λ (f : Kind). Err (n, f)) (sym h.unended)

pub refused : (bytes : List ℕ) (n : ℕ) (fault : Kind) → IsWrong bytes n fault → outcome bytes ≡ Err (n, fault)
refused bytes n fault (inl h) = wrong_line bytes n fault h
refused bytes n fault (inr (inl h)) = no_command bytes n fault h
refused bytes n fault (inr (inr h)) = unended bytes n fault h

-- ---- what the parser gives
pub given_spelled : (bytes : List ℕ) (r : Result (List Command) ScriptError) → Gives (λ s. s) r (outcome bytes) → IfOk r (λ s. IsSpelled bytes s)
given_spelled bytes (Ok s) h = spelled bytes s h
given_spelled bytes (Err e) h = tt

pub given_only : (bytes : List ℕ) (r : Result (List Command) ScriptError) → Gives (λ s. s) r (outcome bytes) → (s : List Command) → IsSpelled bytes s → (r ≡ Ok s) ⊎ (r ≡ Err error.OutOfMemory)
given_only bytes (Ok t) h s is = let e : outcome bytes ≡ Ok s = only bytes s is in let same : t ≡ s = cc in inl (ap Ok same)
given_only bytes (Err (error.BadLine n k)) h s is = let e : outcome bytes ≡ Ok s = only bytes s is in absurd (cc)
given_only bytes (Err error.OutOfMemory) h s is = inr refl

pub given_wrong : (bytes : List ℕ) (r : Result (List Command) ScriptError) → Gives (λ s. s) r (outcome bytes) → (n : ℕ) (fault : Kind) → r ≡ Err (error.BadLine n fault) → IsWrong bytes n fault
given_wrong bytes (Ok t) h n fault e = absurd (cc)
given_wrong bytes (Err (error.BadLine m k)) h n fault e =
    let number : m ≡ n = cc in
    let kind : k ≡ fault = cc in
    wrong bytes n fault (h ∙ ap (λ (i : ℕ). Err (i, k)) number ∙ ap (λ (f : Kind). Err (n, f)) kind)
given_wrong bytes (Err error.OutOfMemory) h n fault e = absurd (cc)

pub given_refused : (bytes : List ℕ) (r : Result (List Command) ScriptError) → Gives (λ s. s) r (outcome bytes) → (n : ℕ) (fault : Kind) → IsWrong bytes n fault → (r ≡ Err (error.BadLine n fault)) ⊎ (r ≡ Err error.OutOfMemory)
given_refused bytes (Ok t) h n fault is = let e : outcome bytes ≡ Err (n, fault) = refused bytes n fault is in absurd (cc)
given_refused bytes (Err (error.BadLine m k)) h n fault is =
    let e : outcome bytes ≡ Err (n, fault) = refused bytes n fault is in
    let both : (m, k) ≡ (n, fault) = cc in
    inl (ap (λ (p : ℕ × Kind). Err (error.BadLine p.0 p.1)) both)
given_refused bytes (Err error.OutOfMemory) h n fault is = inr refl

-- ---- the grammar itself
pub either : (bytes : List ℕ) → ((s : List Command) × IsSpelled bytes s) ⊎ ((n : ℕ) × (fault : Kind) × IsWrong bytes n fault)
either bytes = by_outcome (outcome bytes) refl
  where
    by_outcome : (r : Result (List Command) Fault) → outcome bytes ≡ r → ((s : List Command) × IsSpelled bytes s) ⊎ ((n : ℕ) × (fault : Kind) × IsWrong bytes n fault)
    by_outcome (Ok s) e = inl (s, spelled bytes s e)
    by_outcome (Err x) e = inr (x.0, x.1, wrong bytes x.0 x.1 e)

pub never_both : (bytes : List ℕ) (s : List Command) (n : ℕ) (fault : Kind) → IsSpelled bytes s → IsWrong bytes n fault → ⊥
never_both bytes s n fault is isnt = let e : outcome bytes ≡ Ok s = only bytes s is in let f : outcome bytes ≡ Err (n, fault) = refused bytes n fault isnt in cc

pub one_script : (bytes : List ℕ) (s t : List Command) → IsSpelled bytes s → IsSpelled bytes t → s ≡ t
one_script bytes s t is also = let e : outcome bytes ≡ Ok s = only bytes s is in let f : outcome bytes ≡ Ok t = only bytes t also in cc

pub one_fault : (bytes : List ℕ) (m n : ℕ) (j k : Kind) → IsWrong bytes m j → IsWrong bytes n k → (m ≡ n) × (j ≡ k)
one_fault bytes m n j k is also =
    let e : outcome bytes ≡ Err (m, j) = refused bytes m j is in
    let f : outcome bytes ≡ Err (n, k) = refused bytes n k also in
    let both : (m, j) ≡ (n, k) = cc in
    (ap (λ (p : ℕ × Kind). p.0) both, ap (λ (p : ℕ × Kind). p.1) both)
