-- Replays that go on, and replays that have stopped.
use Rattle.std.proofs.Common.{◌≡◌, ℕ, ◌+◌, ◌<◌, Bool, true, false, List, [], ◌∷◌, ◌++◌, length, take, drop, get_or, refl, ap, sym, subst, ◌∙◌}
use Rattle.std.specs.Prelude.{not, fold, filter, if◌then◌else◌}
use Rattle.std.proofs.lemmas.List.{take_more, take-append-drop}
use Rattle.std.proofs.lemmas.List.Sums.{fold-append}
use Rattle.std.proofs.lemmas.List.Folds.{fold_stays}
use Rattle.std.proofs.lemmas.List.Elements.{filter_map-append, filter-append}
use Rattle.dali_record.specs.declared.records.Record.{Record}
use Rattle.dali_record.specs.declared.records.Call.{Call}
use Rattle.dali_record.specs.declared.records.Answer.{Answer}
use Rattle.dali_record.specs.Damage.{has}
use Rattle.dali_record.specs.Log.{call_by, calls_of, commit_by, committed}
use Rattle.dali_history.specs.Serial.{Map}
use Rattle.dali_replay.specs.Walking.{Walk, start, then_walk, call_made, calls_made, serial_made}
use Rattle.dali_replay.specs.Following.{Comes, Follows, survive_among}

on_from : (g : Map → Walk) (b c : List (ℕ × List ℕ)) (ok : Bool) (w : Walk) → Follows g b c ok → Comes w b true → Comes (then_walk w g) c ok
on_from g b c ok w h k = subst (λ (x : Bool). Comes (if x then g w.map else w) c ok) k.0 (h w.map k.1)

follow_on : (f g h : Map → Walk) (a b c : List (ℕ × List ℕ)) (ok : Bool) → ((m : Map) → h m ≡ then_walk (f m) g) → Follows f a b true → Follows g b c ok → Follows h a c ok
follow_on f g h a b c ok same before here m k = subst (λ (w : Walk). Comes w c ok) (sym (same m)) (on_from g b c ok (f m) here (before m k))

stop_from : (g : Map → Walk) (b : List (ℕ × List ℕ)) (w : Walk) → Comes w b false → Comes (then_walk w g) b false
stop_from g b w k = subst (λ (x : Bool). Comes (if x then g w.map else w) b false) k.0 k

follow_stop : (f g h : Map → Walk) (a b : List (ℕ × List ℕ)) → ((m : Map) → h m ≡ then_walk (f m) g) → Follows f a b false → Follows h a b false
follow_stop f g h a b same before m k = subst (λ (w : Walk). Comes w b false) (sym (same m)) (stop_from g b (f m) (before m k))

-- ---- the calls of one transaction
calls_from : (m : Map) (ok : Bool) (cs : List (Call × Answer)) → fold (λ w p. then_walk w (λ n. call_made n p)) (record { map = m; agrees = ok }) cs ≡ then_walk (record { map = m; agrees = ok }) (λ n. calls_made n cs)
calls_from m true cs = refl
calls_from m false cs = fold_stays (λ w p. then_walk w (λ n. call_made n p)) (record { map = m; agrees = false }) (λ p. refl) cs

pub calls_then : (w : Walk) (cs : List (Call × Answer)) → fold (λ v p. then_walk v (λ n. call_made n p)) w cs ≡ then_walk w (λ n. calls_made n cs)
calls_then w cs = calls_from w.map w.agrees cs

calls_append : (m : Map) (t : ℕ) (A B : List Record) → calls_made m (calls_of t (A ++ B)) ≡ then_walk (calls_made m (calls_of t A)) (λ n. calls_made n (calls_of t B))
calls_append m t A B = ap (calls_made m) (filter_map-append (call_by t) A B) ∙ fold-append (λ w p. then_walk w (λ n. call_made n p)) (start m) (calls_of t A) (calls_of t B) ∙ calls_then (calls_made m (calls_of t A)) (calls_of t B)

whole : (L : List Record) (n : ℕ) (r : Record) → n < length L → r ≡ get_or L n r → take (n + 1) L ≡ take n L ++ r ∷ []
whole L n r l is = take_more L n r l ∙ ap (λ x. take n L ++ x ∷ []) (sym is)

pub txn_on : (t : ℕ) (L : List Record) (n : ℕ) (r : Record) (a b c : List (ℕ × List ℕ)) (ok : Bool) → n < length L → r ≡ get_or L n r → Follows (λ m. calls_made m (calls_of t (take n L))) a b true → Follows (λ m. calls_made m (calls_of t (r ∷ []))) b c ok → Follows (λ m. calls_made m (calls_of t (take (n + 1) L))) a c ok
txn_on t L n r a b c ok l is = follow_on (λ m. calls_made m (calls_of t (take n L))) (λ m. calls_made m (calls_of t (r ∷ []))) (λ m. calls_made m (calls_of t (take (n + 1) L))) a b c ok (λ m. ap (λ E. calls_made m (calls_of t E)) (whole L n r l is) ∙ calls_append m t (take n L) (r ∷ []))

pub txn_stop : (t : ℕ) (L : List Record) (n : ℕ) (a c : List (ℕ × List ℕ)) → Follows (λ m. calls_made m (calls_of t (take n L))) a c false → Follows (λ m. calls_made m (calls_of t L)) a c false
txn_stop t L n a c = follow_stop (λ m. calls_made m (calls_of t (take n L))) (λ m. calls_made m (calls_of t (drop n L))) (λ m. calls_made m (calls_of t L)) a c (λ m. ap (λ E. calls_made m (calls_of t E)) (sym (take-append-drop n L)) ∙ calls_append m t (take n L) (drop n L))

-- ---- one transaction after another
serial_from : (m : Map) (ok : Bool) (ts : List ℕ) (L : List Record) → fold (λ w t. then_walk w (λ n. calls_made n (calls_of t L))) (record { map = m; agrees = ok }) ts ≡ then_walk (record { map = m; agrees = ok }) (λ n. serial_made n ts L)
serial_from m true ts L = refl
serial_from m false ts L = fold_stays (λ w t. then_walk w (λ n. calls_made n (calls_of t L))) (record { map = m; agrees = false }) (λ t. refl) ts

serial_then : (w : Walk) (ts : List ℕ) (L : List Record) → fold (λ v t. then_walk v (λ n. calls_made n (calls_of t L))) w ts ≡ then_walk w (λ n. serial_made n ts L)
serial_then w ts L = serial_from w.map w.agrees ts L

serial_append : (m : Map) (ds : List ℕ) (A B L : List Record) → serial_made m (survive_among ds (committed (A ++ B))) L ≡ then_walk (serial_made m (survive_among ds (committed A)) L) (λ n. serial_made n (survive_among ds (committed B)) L)
serial_append m ds A B L =
    ap (λ ts. serial_made m ts L) (ap (survive_among ds) (filter_map-append commit_by A B) ∙ filter-append (λ t. not (has ds t)) (committed A) (committed B))
    ∙ fold-append (λ w t. then_walk w (λ n. calls_made n (calls_of t L))) (start m) (survive_among ds (committed A)) (survive_among ds (committed B))
    ∙ serial_then (serial_made m (survive_among ds (committed A)) L) (survive_among ds (committed B)) L

pub all_on : (ds : List ℕ) (L : List Record) (n : ℕ) (r : Record) (a b c : List (ℕ × List ℕ)) (ok : Bool) → n < length L → r ≡ get_or L n r → Follows (λ m. serial_made m (survive_among ds (committed (take n L))) L) a b true → Follows (λ m. serial_made m (survive_among ds (committed (r ∷ []))) L) b c ok → Follows (λ m. serial_made m (survive_among ds (committed (take (n + 1) L))) L) a c ok
all_on ds L n r a b c ok l is = follow_on (λ m. serial_made m (survive_among ds (committed (take n L))) L) (λ m. serial_made m (survive_among ds (committed (r ∷ []))) L) (λ m. serial_made m (survive_among ds (committed (take (n + 1) L))) L) a b c ok (λ m. ap (λ E. serial_made m (survive_among ds (committed E)) L) (whole L n r l is) ∙ serial_append m ds (take n L) (r ∷ []) L)

pub all_stop : (ds : List ℕ) (L : List Record) (n : ℕ) (a c : List (ℕ × List ℕ)) → Follows (λ m. serial_made m (survive_among ds (committed (take n L))) L) a c false → Follows (λ m. serial_made m (survive_among ds (committed L)) L) a c false
all_stop ds L n a c = follow_stop (λ m. serial_made m (survive_among ds (committed (take n L))) L) (λ m. serial_made m (survive_among ds (committed (drop n L))) L) (λ m. serial_made m (survive_among ds (committed L)) L) a c (λ m. ap (λ E. serial_made m (survive_among ds (committed E)) L) (sym (take-append-drop n L)) ∙ serial_append m ds (take n L) (drop n L) L)
