-- The table that bytes write, from what `toml` says of them.
use Rattle.std.proofs.Common.{◌≡◌, ℕ, List, Some, None, inl, inr}
use Rattle.std.proofs.lemmas.Bool.{cases_Bool}
use Rattle.std.proofs.lemmas.Str.{IsUtf8-from_is_utf8, is_utf8-from_IsUtf8}
use Rattle.std.specs.Str.{IsUtf8, is_utf8}
use Rattle.toml.specs.Data.{Members}
use Rattle.toml.specs.Parse.{parse_document}
use Rattle.fc_library.specs.Documents.{document}

pub document_some : (bytes : List ℕ) (ms : Members) → IsUtf8 bytes → parse_document bytes ≡ Some ms → document bytes ≡ Some ms
document_some bytes ms utf8 parsed = rw (is_utf8-from_IsUtf8 bytes utf8) parsed

pub document_none : (bytes : List ℕ) → (IsUtf8 bytes → parse_document bytes ≡ None) → document bytes ≡ None
document_none bytes refused =
    elim (cases_Bool (is_utf8 bytes)) [
      | inl text ↦ rw text (refused (IsUtf8-from_is_utf8 bytes text))
      | inr other ↦ rw other
    ]
