-- What a process is answered.
use Rattle.std.specs.Prelude.{ℕ, List, [], ◌∷◌}

-- the reply to one access: the values that were read, in rising registers, or one 0 where nothing
-- was read
abbrev pub Reply : Type 0
Reply = List ℕ

-- a reply of one value
abbrev pub one : ℕ → Reply
one v = v ∷ []

-- the first value of a reply
abbrev pub value_of : Reply → ℕ
value_of [] = 0
value_of (v ∷ values) = v

-- the replies to one access after another, the first one first
abbrev pub Replies : Type 0
Replies = List Reply
