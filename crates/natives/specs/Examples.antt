-- Worked examples.
use Rattle.std.specs.Prelude.{◌≡◌, true, false, Bool, List, [], ◌∷◌, refl, replicate, slice_set}
use Rattle.regmodel.specs.declared.accesses.Access.TheVariants.{Read, Write, Scan}
use Rattle.regmodel.specs.declared.accesses.Pending.TheVariants.{Wants, Done, Fault}
use Rattle.regmodel.specs.Reply.{one}
use Rattle.uses.specs.Expansions.{split_program}
use Rattle.uses.specs.declared.kinds.Use.TheVariants as kind
use Rattle.natives.specs.declared.split.SplitStage.TheVariants.{At}
use Rattle.natives.specs.declared.splitters.SplitterStep.TheVariants.{Looks}
use Rattle.natives.specs.Splits.{split_rest, split_resumed}
use Rattle.machine.specs.Bits.{packed, unpacked}
use Rattle.natives.specs.Grids.{grid_from, grid_resumed}
use Rattle.natives.specs.Resuming.{native_resumed}
use Rattle.natives.specs.Rounds.{first_slot, after_slot, after_slots, number_from}
use Rattle.natives.specs.NameSlots.{from_reading, name_resumed}
use Rattle.natives.specs.Names.{from_scan_round, names_resumed}
use Rattle.natives.specs.Trees.{from_stop, from_past, from_at, tree_resumed}

-- ---- a splitter that is about to look who came last

pub split_finds_itself : split_rest (split_program 0 1 2) (At Looks) (one 1 ∷ [])
    ≡ Done (record { items = 1 ∷ [] })
split_finds_itself = refl

-- ---- a grid of side 2 at registers 0 to 5: at its first vertex, and at the vertex
-- below, in its last turn

pub grid_goes_right : grid_from 0 1 6 2 0 1 (one 0 ∷ one 1 ∷ []) ≡ Wants (Write 4 1)
grid_goes_right = refl

pub grid_goes_out : grid_from 0 1 6 1 1 2 (one 0 ∷ one 1 ∷ []) ≡ Done (record { items = [] })
grid_goes_out = refl

-- ---- two slots, of which the first is the own one

pub proposal_is_free :
    from_reading 0 2 0 2 98 1 (replicate 8 0) (after_slot 0 1 0 first_slot) (one 0 ∷ [])
    ≡ Done (record { items = 1 ∷ [] })
proposal_is_free = refl

-- the least number that no slot holds; the second one of them
pub first_free : number_from (0 ∷ 1 ∷ []) 3 1 0 ≡ 2
first_free = refl

pub second_free : number_from (0 ∷ 1 ∷ []) 3 2 0 ≡ 3
second_free = refl

-- a slot below the own one that holds the proposal
pub clash_below : after_slot 1 1 1 first_slot ≡ record { at = 1; clash = true; rank = 2 }
clash_below = refl

-- ---- two slots that are scanned, of which the second is the own one

pub names_scans : from_scan_round 0 2 1 2 99 1 (replicate 32 0) (one 0 ∷ []) ≡ Wants (Scan 0 2)
names_scans = refl

pub names_clash : from_scan_round 0 2 1 2 99 1 (replicate 32 0) (one 0 ∷ (1 ∷ 1 ∷ []) ∷ [])
    ≡ Wants (Write 1 3)
names_clash = refl

-- the proposal in the own slot is no clash
pub names_alone : from_scan_round 0 2 1 2 99 1 (replicate 32 0) (one 0 ∷ (0 ∷ 1 ∷ []) ∷ [])
    ≡ Done (record { items = 1 ∷ [] })
names_alone = refl

pub names_last_round : from_scan_round 0 2 1 2 1 1 (replicate 32 0) (one 0 ∷ (1 ∷ 0 ∷ []) ∷ [])
    ≡ Done (record { items = [] })
names_last_round = refl

-- the slot below holds the proposal, the own one counts as empty
pub clash_of_both : after_slots 1 1 (1 ∷ 0 ∷ []) first_slot ≡ record {
  at = 2;
  clash = true;
  rank = 2;
}
clash_of_both = refl

-- ---- a tree of three vertices at registers 0 to 11

abbrev root : List Bool
root = slice_set (replicate 32 false) 1 true

pub tree_writes_its_value : from_stop 0 12 2 7 1 [] ≡ Wants (Write 3 7)
tree_writes_its_value = refl

pub tree_sees_the_root : from_past 0 12 3 0 root [] [] ≡ Wants (Read 0)
tree_sees_the_root = refl

pub tree_takes_from_the_root : from_at 0 12 3 root [] 1 (one 1 ∷ []) ≡ Wants (Read 3)
tree_takes_from_the_root = refl

pub tree_goes_left_next : from_at 0 12 3 root [] 1 (one 1 ∷ one 7 ∷ []) ≡ Wants (Read 4)
tree_goes_left_next = refl

pub tree_passes_an_unmarked_root : from_at 0 12 3 root (7 ∷ []) 1 (one 0 ∷ [])
    ≡ Done (record { items = 7 ∷ [] })
tree_passes_an_unmarked_root = refl

pub tree_takes_no_ninth : from_at 0 12 3 root (replicate 8 5) 1 (one 1 ∷ one 7 ∷ []) ≡ Fault 4
tree_takes_no_ninth = refl

-- ---- where the same machines stand, in numbers

pub split_looks : split_resumed (split_program 0 1 2) (3 ∷ []) (one 1 ∷ [])
    ≡ Done (record { items = 1 ∷ [] })
split_looks = refl

pub grid_tries : grid_resumed 0 2 1 6 (1 ∷ 0 ∷ 1 ∷ []) (one 1 ∷ []) ≡ Wants (Write 4 1)
grid_tries = refl

pub name_reads : name_resumed 0 2 0 2 (1 ∷ 98 ∷ 1 ∷ 1 ∷ 1 ∷ 0 ∷ []) (one 0 ∷ [])
    ≡ Done (record { items = 1 ∷ [] })
name_reads = refl

pub names_scan_now : names_resumed 0 2 1 2 (1 ∷ 98 ∷ 1 ∷ 1 ∷ 5 ∷ []) ((1 ∷ 1 ∷ []) ∷ [])
    ≡ Wants (Write 1 3)
names_scan_now = refl

pub reached_root : packed root ≡ 2
reached_root = refl

pub root_reached : unpacked 32 2 ≡ root
root_reached = refl

pub tree_takes : tree_resumed 0 12 2 3 1 7 (7 ∷ 1 ∷ 2 ∷ []) (one 7 ∷ []) ≡ Wants (Read 4)
tree_takes = refl

-- ---- the same by the numbers of a line alone

pub line_of_tree_takes : native_resumed (kind.Tree 0 2 1 7) 12 (7 ∷ 1 ∷ 2 ∷ []) (one 7 ∷ [])
    ≡ Wants (Read 4)
line_of_tree_takes = refl

pub line_of_split_looks : native_resumed (kind.Split 0 1) 2 (3 ∷ []) (one 1 ∷ [])
    ≡ Done (record { items = 1 ∷ [] })
line_of_split_looks = refl
