-- What a parse of the command line meets.
use Rattle.std.proofs.Common.{◌≡◌, ◌∙◌, true≢false, true, sym, inl, inr, ap, subst, Option, Some, None, is_some, option_map}
use Rattle.std.specs.Prelude.{IfOk, IfSome, IsSomeAnd, Result, Ok, Err}
use Rattle.std.specs.List.{Any}
use Rattle.clap.specs.Words.{App, IsParsedFrom, MeetsSubcommandOf, Text, app_of}
use Rattle.clap.specs.declared.builder.command.Command.{Command}
use Rattle.clap.specs.declared.parser.matches.ArgMatches.{ArgMatches}
use Rattle.clap.proofs.CallerLemmas.{subcommand_required}
use Rattle.orders.specs.CommandLine.{MeetsOneOf, command_line, names_of_subcommands}
use Rattle.orders.proofs.PlainCommands.{second, third}

-- what is some, and meets P where it is some, meets what follows from P
some_meets : {X Y : Type 0} (o : Option X) (f : X → Y) (P Q : Y → Type 0) → is_some o ≡ true → IfSome (option_map f o) P
    → ((y : Y) → P y → Q y) → IsSomeAnd (option_map f o) Q
some_meets (Some x) f P Q e p h = h (f x) p
some_meets None f P Q e p h = cc

pub meets_one : (word : Text) (c : Command) (m : ArgMatches) → app_of c ≡ command_line word → IsParsedFrom c m → MeetsSubcommandOf c m
    → MeetsOneOf (command_line word) m
meets_one word c m is parsed meets =
    let plain = ap (λ (a : App). a.top.is_plain) is in
    let needs = ap (λ (a : App). a.top.subcommand_required) is in
    let known = second _ _ _ plain in
    some_meets _ _ _ _ (subcommand_required c m parsed (third _ _ _ _ plain) needs) meets (λ n here. elim here [
      | inl at ↦ inl (subst (λ ns. Any (λ x. x ≡ n) ns) (ap names_of_subcommands is) at)
      | inr other ↦ elim other [
        | inl help ↦ inr help
        | inr any ↦ absurd (true≢false (sym any ∙ known))
      ]
    ])

pub meets_ok : {E : Type 0} (word : Text) (r : Result ArgMatches E) (c : Command) → app_of c ≡ command_line word → IfOk r (λ m. IsParsedFrom c m)
    → IfOk r (λ m. MeetsSubcommandOf c m) → IfOk r (MeetsOneOf (command_line word))
meets_ok word (Ok m) c is parsed meets = meets_one word c m is parsed meets
meets_ok word (Err e) c is parsed meets = tt
