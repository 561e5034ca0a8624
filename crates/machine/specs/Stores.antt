-- Inside the crate: what a store holds.
use Rattle.std.specs.Prelude.{ℕ, zero, suc, List, [], ◌∷◌, Result, Ok, Err}
use Rattle.regmodel.specs.Kept.{values_in}
use Rattle.regmodel.specs.Reply.{Reply, value_of}
use Rattle.regmodel.specs.Values.{Env, Place, InVar, InCell, store, store_from}
use Rattle.machine.specs.declared.values.Row.{Row}
use Rattle.machine.specs.declared.values.Destination.{Destination}
use Rattle.machine.specs.declared.values.Destination.TheVariants.{Nowhere, InPlace, InCells}
use Rattle.machine.specs.declared.values.Store.{Store}
use Rattle.machine.specs.declared.values.Place as values
use Rattle.machine.specs.declared.values.Place.TheVariants as place

-- the first of the values, and 0 in place of each further one
abbrev pub padded : ℕ → List ℕ → List ℕ
padded count [] = []
padded zero (value ∷ more) = 0 ∷ padded 0 more
padded (suc count) (value ∷ more) = value ∷ padded count more

-- the values of a row: those in the places below the count, and then only 0
abbrev pub values_of : {N : ℕ} → Row N → List ℕ
values_of row = padded row.count row.places

-- the environment that a store holds
abbrev pub env_of : Store → Env
env_of s =
    record { vars = values_of s.vars; cells = values_of s.cells; emitted = values_in s.emitted }

-- the place that is meant
abbrev pub as_place : values.Place → Place
as_place (place.Var i) = InVar i
as_place (place.Cell i) = InCell i

-- the place that is meant, or the fault
abbrev pub as_place_or_fault : Result values.Place ℕ → Result Place ℕ
as_place_or_fault (Ok p) = Ok (as_place p)
as_place_or_fault (Err code) = Err code

-- what is held once a reply is stored at its destination
abbrev pub reply_stored : Destination → Env → Reply → Env
reply_stored Nowhere env reply = env
reply_stored (InPlace place) env reply = store env (as_place place) (value_of reply)
reply_stored (InCells cell) env reply = store_from env cell reply
