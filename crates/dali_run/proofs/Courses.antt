-- The commands of a script one after another.
use Rattle.std.proofs.Common.{◌≡◌, ℕ, ◌+◌, ◌<◌, ◌≤◌, List, [], ◌∷◌, ◌++◌, length, take, get_or, Option, Some, None, Result, Ok, Err, zero, suc, inl, inr, arith, refl, sym, ◌∙◌, ap, subst, append_assoc}
use Rattle.std.proofs.lemmas.List.{append-nil, take_more}
use Rattle.std.specs.Prelude.{Bool, OnOk, IfErr}
use Rattle.std.specs.List.{AllByRecursion}
use Rattle.dali_store.specs.Faults.{Rose}
use Rattle.dali_store.specs.declared.store.Store.{Ghosts}
use Rattle.dali_streams.specs.Streams.{Appends}
use Rattle.dali_streams.specs.declared.streams.Sink.{Ghosts as SinkGhosts}
use Rattle.dali_fuse.specs.Fuse.{inner}
use Rattle.dali_fuse.specs.declared.fuse.Fuse.{Fuse}
use Rattle.dali_script.specs.declared.commands.Command.{Command}
use Rattle.dali_run.specs.declared.halt.Halt.{Halt}
use Rattle.dali_run.specs.declared.halt.Halt.TheVariants.{BadWords, BadScript, TooLong, ReadFault, WriteFault, StoreFault, BadStore, Unformatted, Formatted, LogFull, TooSmall, NotLoaded, StoreUnsteady, RecordTooLong, OutOfMemory}
use Rattle.dali_run.specs.declared.program.Program.{Program}
use Rattle.dali_run.specs.Program.{HoldsImages, IsDown, store_of}
use Rattle.dali_run.specs.Scripts.{RanWhole, StoppedIn}
use Rattle.dali_run.specs.Fails.{Fails}
use Rattle.dali_run.specs.Run.{RunsAll, HasRun}
use Rattle.dali_run.specs.Steps.{Steps}
use Rattle.dali_run.specs.Stops.{CommandStops, ScriptStops}
use Rattle.dali_run.proofs.Pieces.{appends_then}

pub front_more : {X : Type 0} (xs : List X) (i : ℕ) (x : X) → i < length xs → x ≡ get_or xs i x → take (i + 1) xs ≡ take i xs ++ x ∷ []
front_more xs i x within is = take_more xs i x within ∙ ap (λ y. take i xs ++ y ∷ []) (sym is)

pub nothing_added : (t : Option (List ℕ)) → Appends t [] t
nothing_added None = refl
nothing_added (Some x) = ap Some (sym (append-nil x))

pub sized : {X : Type 0} (P : X → Type 0) (xs : List X) (i : ℕ) (x : X) → AllByRecursion P xs → i < length xs → x ≡ get_or xs i x → P x
sized P [] i x all within is = absurd (omega (arith, within))
sized P (y ∷ ys) zero x all within is = subst P (sym is) all.0
sized P (y ∷ ys) (suc i) x all within is = sized P ys i x all.1 (omega (arith, within)) is

pub ok_of : {T E A : Type 0} (r : Result T E) (x : T) → r ≡ Ok x → OnOk r A → A
ok_of (Ok t) x e a = a
ok_of (Err f) x e a = absurd cc

pub err_of : {T E : Type 0} (P : E → Type 0) (r : Result T E) (x : E) → r ≡ Err x → IfErr r P → P x
err_of P (Ok t) x e p = absurd cc
err_of P (Err f) x e p = let same : f ≡ x = cc in subst P same p

pub ok_is_no_err : {T E : Type 0} (r : Result T E) (x : T) (f : E) → r ≡ Ok x → r ≡ Err f → ⊥
ok_is_no_err (Ok t) x f ok err = cc
ok_is_no_err (Err g) x f ok err = cc

pub holds_down : {V : Type 0} (g : Ghosts V) (p : Program V) (store : V) → IsDown p store → HoldsImages g p
holds_down g p store down = subst (HoldsImages g) (sym down.down) tt

pub inner_of : {V : Type 0} (p : Program V) (f : Fuse V) (s : V) → f ≡ store_of p → s ≡ inner f → inner (store_of p) ≡ s
inner_of {V = V} p f s of is = ap (λ (x : Fuse V). inner x) (sym of) ∙ sym is

module _ {V : Type 0} (g : Ghosts V) (limit : ℕ) (precheck : Bool) where
  one_more : (done : List Command) (command : Command) (start now next : Program V) (text more : List ℕ) → RunsAll g limit precheck start done text now
      → Steps g limit precheck now command more next → RunsAll g limit precheck start (done ++ command ∷ []) (text ++ more) next
  one_more [] command start now next text more run step =
      (more, next, [], subst (λ (p : Program V). Steps g limit precheck p command more next) run.1 step, (refl, refl), ap (λ (l : List ℕ). l ++ more) run.0 ∙ sym (append-nil more))
  one_more (c ∷ done) command start now next text more run step =
      (run.0, run.1, run.2 ++ more, run.3, one_more done command run.1 now next run.2 more run.4 step, ap (λ (l : List ℕ). l ++ more) run.5 ∙ append_assoc run.0 run.2 more)

  -- so many commands were run, and their lines written
  pub record Reached (start : V) (script : List Command) (count : ℕ) (before : Option (List ℕ)) (now : Program V) (after : Option (List ℕ)) : Type 0 where
    pub text : List ℕ
    pub run : HasRun g limit precheck start script count text now
    pub written : Appends before text after

  pub begins : (start : V) (script : List Command) (before : Option (List ℕ)) (p : Program V) → IsDown p start → Reached start script 0 before p before
  begins start script before p down = record {
    text = [];
    run = record { first = p; down = down; runs = (refl, refl) };
    written = nothing_added before;
  }

  more_run : (start : V) (script : List Command) (count : ℕ) (command : Command) (text more : List ℕ) (now next : Program V) → count < length script → command ≡ get_or script count command
      → HasRun g limit precheck start script count text now → Steps g limit precheck now command more next
      → HasRun g limit precheck start script (count + 1) (text ++ more) next
  more_run start script count command text more now next within is run step = record {
    first = run.first;
    down = run.down;
    runs = subst (λ (cs : List Command). RunsAll g limit precheck run.first cs (text ++ more) next) (sym (front_more script count command within is))
        (one_more (take count script) command run.first now next text more run.runs step);
  }

  pub goes_on : (start : V) (script : List Command) (count : ℕ) (command : Command) (before mid after : Option (List ℕ)) (now next : Program V) → count < length script → command ≡ get_or script count command
      → Reached start script count before now mid → (text : List ℕ) × Steps g limit precheck now command text next × Appends mid text after → Reached start script (count + 1) before next after
  goes_on start script count command before mid after now next within is r done = record {
    text = r.text ++ done.0;
    run = more_run start script count command r.text done.0 now next within is r.run done.1;
    written = appends_then before mid after r.text done.0 r.written done.2;
  }

  pub is_whole : (start : V) (script : List Command) (count : ℕ) (before after : Option (List ℕ)) (now : Program V) (end : V) → count ≡ length script → inner (store_of now) ≡ end → Reached start script count before now after
      → RanWhole g limit precheck start script before after end
  is_whole start script count before after now end all store r = record {
    text = r.text;
    state = now;
    run = subst (λ (n : ℕ). HasRun g limit precheck start script n r.text now) all r.run;
    store = store;
    written = r.written;
  }

  stopped : (halt : Halt) (start : V) (script : List Command) (count : ℕ) (command : Command) (before mid after : Option (List ℕ)) (now next : Program V) (end : V) → count < length script → command ≡ get_or script count command
      → inner (store_of next) ≡ end → Reached start script count before now mid → Fails g precheck halt command now (store_of next) × (after ≡ mid)
      → StoppedIn g limit precheck halt start script before after end
  stopped halt start script count command before mid after now next end within is store r stops = record {
    count = count;
    command = command;
    next = record { within = within; next = front_more script count command within is };
    text = r.text;
    state = now;
    run = r.run;
    last = store_of next;
    fails = stops.0;
    store = store;
    written = subst (λ (t : Option (List ℕ)). Appends before r.text t) (sym stops.1) r.written;
  }

  pub stops_in : {K : Type 0} (k : SinkGhosts K) (halt : Halt) (start : V) (script : List Command) (count : ℕ) (command : Command) (a b d : K) (now next : Program V) (end : V) → count < length script
      → command ≡ get_or script count command → inner (store_of next) ≡ end → k.faults a ≤ k.faults b → Reached start script count (k.taken a) now (k.taken b)
      → CommandStops g k limit precheck halt command now next b d → ScriptStops g k limit precheck halt start script end a d
  stops_in k WriteFault start script count command a b d now next end within is store le r stops = (
    record {
      count = count;
      command = command;
      next = record { within = within; next = front_more script count command within is };
      text = r.text;
      earlier = now;
      ran = r.run;
      more = stops.0.text;
      state = next;
      steps = stops.0.steps;
      store = store;
      between = k.taken b;
      written = r.written;
      cut = stops.0.cut;
    },
    earlier (k.faults a) (k.faults b) (k.faults d) le stops.1,
  )
    where
      earlier : (first mid last : ℕ) → first ≤ mid → Rose mid last → Rose first last
      earlier first mid last le (inl lt) = inl (omega (arith, le, lt))
      earlier first mid last le (inr most) = inr most
  stops_in k BadWords start script count command a b d now next end within is store le r stops = stopped BadWords start script count command (k.taken a) (k.taken b) (k.taken d) now next end within is store r stops
  stops_in k (BadScript line kind) start script count command a b d now next end within is store le r stops = stopped (BadScript line kind) start script count command (k.taken a) (k.taken b) (k.taken d) now next end within is store r stops
  stops_in k TooLong start script count command a b d now next end within is store le r stops = stopped TooLong start script count command (k.taken a) (k.taken b) (k.taken d) now next end within is store r stops
  stops_in k ReadFault start script count command a b d now next end within is store le r stops = stopped ReadFault start script count command (k.taken a) (k.taken b) (k.taken d) now next end within is store r stops
  stops_in k StoreFault start script count command a b d now next end within is store le r stops = stopped StoreFault start script count command (k.taken a) (k.taken b) (k.taken d) now next end within is store r stops
  stops_in k (BadStore file at) start script count command a b d now next end within is store le r stops = stopped (BadStore file at) start script count command (k.taken a) (k.taken b) (k.taken d) now next end within is store r stops
  stops_in k Unformatted start script count command a b d now next end within is store le r stops = stopped Unformatted start script count command (k.taken a) (k.taken b) (k.taken d) now next end within is store r stops
  stops_in k Formatted start script count command a b d now next end within is store le r stops = stopped Formatted start script count command (k.taken a) (k.taken b) (k.taken d) now next end within is store r stops
  stops_in k StoreUnsteady start script count command a b d now next end within is store le r stops = stopped StoreUnsteady start script count command (k.taken a) (k.taken b) (k.taken d) now next end within is store r stops
  stops_in k RecordTooLong start script count command a b d now next end within is store le r stops = stopped RecordTooLong start script count command (k.taken a) (k.taken b) (k.taken d) now next end within is store r stops
  stops_in k (LogFull most place) start script count command a b d now next end within is store le r stops = stopped (LogFull most place) start script count command (k.taken a) (k.taken b) (k.taken d) now next end within is store r stops
  stops_in k TooSmall start script count command a b d now next end within is store le r stops = stopped TooSmall start script count command (k.taken a) (k.taken b) (k.taken d) now next end within is store r stops
  stops_in k NotLoaded start script count command a b d now next end within is store le r stops = stopped NotLoaded start script count command (k.taken a) (k.taken b) (k.taken d) now next end within is store r stops
  stops_in k OutOfMemory start script count command a b d now next end within is store le r stops = stopped OutOfMemory start script count command (k.taken a) (k.taken b) (k.taken d) now next end within is store r stops
