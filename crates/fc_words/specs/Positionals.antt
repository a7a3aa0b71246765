-- The command by which `clap` tells five positionals apart.
use Rattle.std.specs.Prelude.{List, ℕ, codes, true}
use Rattle.clap.specs.Words.{App, Rule, new_app, new_rule, with_rule}

-- a value that must be there
abbrev pub positional : List ℕ → Rule
positional id = record (new_rule id) { required = true }

-- a command whose words begin with no name of a program
abbrev pub nameless_app : List ℕ → App
nameless_app name = let a = new_app name in record a { top = record a.top { no_binary_name = true } }

abbrev pub five_app : App
five_app =
    with_rule (with_rule (with_rule (with_rule (with_rule (nameless_app (codes "words")) (positional (codes "first"))) (positional (codes "second"))) (positional (codes "third")))
    (positional (codes "fourth"))) (positional (codes "fifth"))
