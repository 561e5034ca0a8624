-- Worked examples: what the kinds do on lists of replies.
use Rattle.std.specs.Prelude.{◌≡◌, [], ◌∷◌, map, refl}
use Rattle.regmodel.specs.declared.accesses.Access.TheVariants.{Read, Write, Scan}
use Rattle.regmodel.specs.declared.accesses.Pending.TheVariants.{Wants, Done}
use Rattle.regmodel.specs.Act.{act_of}
use Rattle.regmodel.specs.Reply.{one}
use Rattle.uses.specs.Expansions.{split_program, grid_program, tree_program, name_program, names_program}

-- ---- a splitter of process 1 at registers 0 and 1

pub split_marks : act_of (split_program 0 1 2) [] ≡ Wants (Write 0 1)
split_marks = refl

pub split_tries_the_door : act_of (split_program 0 1 2) (map one (0 ∷ [])) ≡ Wants (Read 1)
split_tries_the_door = refl

pub split_closes_the_door : act_of (split_program 0 1 2) (map one (0 ∷ 0 ∷ [])) ≡ Wants (Write 1 1)
split_closes_the_door = refl

pub split_looks_back : act_of (split_program 0 1 2) (map one (0 ∷ 0 ∷ 0 ∷ [])) ≡ Wants (Read 0)
split_looks_back = refl

pub split_goes_right : act_of (split_program 0 1 2) (map one (0 ∷ 1 ∷ []))
    ≡ Done (record { items = 2 ∷ [] })
split_goes_right = refl

pub split_stops : act_of (split_program 0 1 2) (map one (0 ∷ 0 ∷ 0 ∷ 1 ∷ []))
    ≡ Done (record { items = 1 ∷ [] })
split_stops = refl

pub split_goes_down : act_of (split_program 0 1 2) (map one (0 ∷ 0 ∷ 0 ∷ 2 ∷ []))
    ≡ Done (record { items = 3 ∷ [] })
split_goes_down = refl

-- ---- a grid of side 2

pub grid_right_of_the_first : act_of (grid_program 0 2 1 6) (map one (0 ∷ 1 ∷ []))
    ≡ Wants (Write 4 1)
grid_right_of_the_first = refl

pub grid_below_the_first : act_of (grid_program 0 2 1 6) (map one (0 ∷ 0 ∷ 0 ∷ 2 ∷ []))
    ≡ Wants (Write 2 1)
grid_below_the_first = refl

pub grid_left : act_of (grid_program 0 2 1 6) (map one (0 ∷ 1 ∷ 0 ∷ 1 ∷ []))
    ≡ Done (record { items = [] })
grid_left = refl

-- ---- a tree of one vertex

pub tree_left : act_of (tree_program 0 1 1 7 4) (map one (0 ∷ 0 ∷ 1 ∷ []))
    ≡ Done (record { items = [] })
tree_left = refl

pub tree_writes_its_value : act_of (tree_program 0 1 1 7 4) (map one (0 ∷ 0 ∷ 0 ∷ 0 ∷ 1 ∷ []))
    ≡ Wants (Write 3 7)
tree_writes_its_value = refl

pub tree_collects_its_value :
    act_of (tree_program 0 1 1 7 4) (map one (0 ∷ 0 ∷ 0 ∷ 0 ∷ 1 ∷ 0 ∷ 1 ∷ 7 ∷ []))
    ≡ Done (record { items = 7 ∷ [] })
tree_collects_its_value = refl

-- ---- two slots

pub name_alone : act_of (name_program 0 2 0 2) (map one (0 ∷ 0 ∷ []))
    ≡ Done (record { items = 1 ∷ [] })
name_alone = refl

pub name_clash : act_of (name_program 0 2 0 2) (map one (0 ∷ 1 ∷ [])) ≡ Wants (Write 0 2)
name_clash = refl

pub name_clash_again : act_of (name_program 0 2 0 2) (map one (0 ∷ 1 ∷ 0 ∷ 2 ∷ []))
    ≡ Wants (Write 0 1)
name_clash_again = refl

pub name_clash_of_the_second : act_of (name_program 0 2 1 2) (map one (0 ∷ 1 ∷ []))
    ≡ Wants (Write 1 3)
name_clash_of_the_second = refl

-- ---- two slots that are scanned

pub names_scans : act_of (names_program 0 2 1 2) (one 0 ∷ []) ≡ Wants (Scan 0 2)
names_scans = refl

pub names_clash : act_of (names_program 0 2 1 2) (one 0 ∷ (1 ∷ 1 ∷ []) ∷ []) ≡ Wants (Write 1 3)
names_clash = refl

-- the own slot counts as empty
pub names_alone : act_of (names_program 0 2 1 2) (one 0 ∷ (0 ∷ 1 ∷ []) ∷ [])
    ≡ Done (record { items = 1 ∷ [] })
names_alone = refl
