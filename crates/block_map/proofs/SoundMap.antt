-- What is kept in memory is a map.
use Rattle.std.proofs.Common.{ℕ, subst}
use Rattle.nesc_base.specs.Places.{Owner}
use Rattle.std.proofs.Common.{List, Option, Bool}
use Rattle.block_map.specs.declared.held_runs.HeldRun.{HeldRun}
use Rattle.block_map.specs.Map.{BlockMap, IsMap, MayHold}
use Rattle.block_map.specs.Sound.{IsSound}
use Rattle.block_map.proofs.Among.{place_once}

pub IsMap-sound : {from : ℕ} {owners : List (Option Owner)} {runs : List HeldRun} {room : ℕ} {bits : List Bool} {free : ℕ} {held : List ℕ}
    → IsSound from owners runs room bits free held → (let map : BlockMap = record { from = from; owners = owners } in IsMap map)
IsMap-sound sound = record {
  once = λ n v at other here there. place_once sound.rising ((sound.same n v at).1 here) ((sound.same n v other).1 there);
  may = λ n v at stands. subst (λ m. MayHold m v) stands.3 (subst (λ w. MayHold stands.1.0.0 w) stands.4 (sound.may stands.0 stands.1 stands.2));
  fits = sound.fits;
}
