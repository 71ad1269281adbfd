use Rattle.dali_checkpoint.proofs.Lengths.{places_stay, copied_places, run_places, next_reaches}
use Rattle.dali_checkpoint.proofs.laws.a_clear_flag_has_its_place.Goals as goal

pub returns : goal.returns
returns g c = record {
  stays = λ gs v w. places_stay (g.V.Store.told v.store) (g.V.Store.told w.store) gs;
  copied = λ gs r side h v w. copied_places (g.V.Store.told v.store) (g.V.Store.told w.store) gs r side h;
  far = λ gs i n side v w. run_places (g.V.Store.told v.store) (g.V.Store.told w.store) gs i n side;
  reaches = λ gs i side run v. next_reaches (g.V.Store.told v.store) gs i side run;
}
