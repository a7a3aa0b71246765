-- Which contents the response to a query holds. The leaves are answered in order: a leaf's content stands where the response with it,
-- with what stands before it and with a RESULT in all other leaves passes no length field, and else a RESULT that says so. This
-- profile's own.
use Rattle.std.specs.Prelude.{ℕ, ◌&&◌, Bool, true, false, List, [], ◌∷◌, map}
use Rattle.fc_path.specs.Canon.{Written, joined, select_written}
use Rattle.std.specs.List.{list_all}
use Rattle.fc_path.specs.declared.oper.Oper.{Oper}
use Rattle.fc_path.specs.declared.oper.Oper.TheVariants as oper
use Rattle.fc_path.specs.declared.oper.Select.{Select}
use Rattle.fc_ops.specs.Filling.{selects_filled}
use Rattle.fc_ops.specs.Choosing.{small, select_blank}
use Rattle.fc_ops.specs.declared.offers.Content.{Content}
use Rattle.fc_ops.specs.declared.offers.Content.TheVariants as content

-- the code of contents that are too long
abbrev pub too_long : ℕ
too_long = 15

-- a RESULT in the place of a content; every one has eight bytes
abbrev pub no_content : Content → Content
no_content c = content.Refused 0

abbrev pub kept : Bool → Content → Content
kept true c = c
kept false c = content.Refused too_long

-- the contents of the leaves, where a list of contents for all leaves fits or does not
abbrev pub answered : (List Content → Bool) → List Content → List Content
answered fits [] = []
answered fits (c ∷ cs) =
    kept (fits (c ∷ map no_content cs)) c ∷ answered (λ more. fits (kept (fits (c ∷ map no_content cs)) c ∷ more)) cs

-- the response of results alone, behind the header of the message
abbrev pub blank : List Select → Written
blank selects = joined (map (λ s. select_written (select_blank s)) selects)

-- whether the response with these contents passes no length field: a message has at most 65,535 words, six of them its header
abbrev pub response_fits : List Select → List Content → Bool
response_fits selects contents = small (joined (map select_written (selects_filled selects contents).0)) 262116

-- the selects of a query: each has operations, and these have PATH-DATA
abbrev pub is_paths : Oper → Bool
is_paths (oper.Paths kind paths) = true
is_paths oper.Commit = false
is_paths oper.Trcomp = false
is_paths (oper.CommitResponse code) = false

abbrev pub has_any : List Oper → Bool
has_any [] = false
has_any (o ∷ os) = true

abbrev pub is_queried : Select → Bool
is_queried s = has_any s.opers && list_all is_paths s.opers
