-- Worked examples of the texts of parts: the definitions compute.
use Rattle.std.specs.Prelude.{◌≡◌, [], ◌∷◌, ◌++◌, refl, None, Some, codes}
use Rattle.std.specs.Fmt.{digits}
use Rattle.regmodel.specs.declared.schedules.Letter.TheVariants.{Run}
use Rattle.regmodel.specs.Examples.{started}
use Rattle.part_texts.specs.PlainHead.{PlainHead}
use Rattle.part_texts.specs.PartText.{part_text}
use Rattle.part_texts.specs.declared.parts.PartFound.TheVariants.{Explored, Least}

-- part 3 of 16 of the exploration of 2 processes, with a source of 6 bytes
abbrev head : PlainHead
head = record {
  number = 3;
  count = 16;
  processes = 2;
  length = 20;
  crashes = 0;
  cut = 4;
  source = codes "empty\n";
}

pub text_of_what_was_explored : part_text (record {
  head = head;
  found = Explored (record {
    tried = 123;
    outcomes = (started [] ∷ started (0 ∷ []) ∷ []) ∷ (started [] ∷ started (5 ∷ []) ∷ []) ∷ [];
    least = None;
  });
})
    ≡ codes "part 3 of 16\nprocesses 2\nlength 20\ncrashes 0\ncut 4\nsource 6\nempty\n"
    ++ codes "tried 123\noutcomes 2\noutcome done; done 0\noutcome done; done 5\nleast none\nend\n"
unfolding digits
text_of_what_was_explored = refl

pub text_of_the_least_alone : part_text (record {
  head = head;
  found = Least (Some (Run 0 ∷ Run 1 ∷ [], started [] ∷ started (0 ∷ []) ∷ []));
})
    ≡
    codes "part 3 of 16\nprocesses 2\nlength 20\ncrashes 0\ncut 4\nsource 6\nempty\nleast R0 R1\nfails done; done 0\nend\n"
unfolding digits
text_of_the_least_alone = refl
