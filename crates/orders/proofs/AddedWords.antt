-- What a table adds to a command, one after another.
use Rattle.std.proofs.Common.{◌≡◌, ◌<◌, ◌+◌, ◌++◌, ◌∷◌, [], ◌∙◌, ℕ, List, Option, Some, None, drop, length, get_or, take, ap, sym, fold, map, false, refl, arith, append_assoc}
use Rattle.std.specs.Prelude.{IfSome}
use Rattle.std.proofs.lemmas.List.{drop_more, length-drop, length-take, drop-map, take-map}
use Rattle.clap.specs.Words.{App, Shape, with_subcommand}
use Rattle.orders.specs.Tables.{alone_at}

-- one more of a list, each of which adds what it is made into
pub one_added : {X Y : Type 0} (add : App → Y → App) (made : X → Y) (all : List X) (i : ℕ) (d : X) (was new : App) → i < length all
    → new ≡ add was (made (get_or all i d))
    → fold add new (map made (drop (i + 1) all)) ≡ fold add was (map made (drop i all))
one_added add made all i d was new low is =
    ap (λ (a : App). fold add a (map made (drop (i + 1) all))) is
    ∙ ap (λ ones. fold add was (map made ones)) (sym (drop_more all i d low))

-- a command with these subcommands behind its own
abbrev pub followed_by : App → List Shape → App
followed_by a all = record { top = record a.top { is_leaf = false }; subs = a.subs ++ all }

-- one subcommand, and others behind it, are added one after another
pub others_added : (a : App) (one : Shape) (others : List Shape) → fold with_subcommand a (one ∷ others) ≡ followed_by a (one ∷ others)
others_added a one [] = refl
others_added a one (next ∷ others) =
    others_added (with_subcommand a one) next others
    ∙ ap (λ subs. record { top = record a.top { is_leaf = false }; subs = subs }) (append_assoc a.subs (one ∷ []) (next ∷ others))

pub all_added : (a : App) (all : List Shape) → 0 < length all → fold with_subcommand a all ≡ followed_by a all
all_added a [] some = absurd (omega (arith, some))
all_added a (one ∷ others) some = others_added a one others

-- what is left alone of a list that is mapped
pub mapped_alone : {X Y : Type 0} (f : X → Y) (all : List X) (place : Option ℕ) → map f (alone_at all place) ≡ alone_at (map f all) place
mapped_alone f all (Some place) = sym (take-map f 1 (drop place all)) ∙ ap (take 1) (sym (drop-map f place all))
mapped_alone f all None = refl

-- something is left alone
pub some_alone : {X : Type 0} (all : List X) (place : Option ℕ) → 0 < length all → IfSome place (λ i. i < length all) → 0 < length (alone_at all place)
some_alone all (Some place) some low = omega (arith, low, length-take 1 (drop place all), length-drop place all)
some_alone all None some low = some
