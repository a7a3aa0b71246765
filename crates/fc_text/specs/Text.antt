-- The text of a message, which `show` prints and people read. This profile's own. A line ends with a line feed, and each
-- level is indented by two spaces more.
use Rattle.std.specs.Prelude.{ℕ, zero, suc, ◌+◌, List, [], ◌∷◌, ◌++◌, codes, decimal, Option, Some, None}
use Rattle.std.specs.List.{flat_map}
use Rattle.fc_base.specs.Hex.{hex, hex_text}
use Rattle.fc_wire.specs.Header.{word_of}
use Rattle.fc_wire.specs.declared.ilvs.Ilv.{Ilv}
use Rattle.fc_path.specs.declared.oper.OperKind.{OperKind}
use Rattle.fc_path.specs.declared.oper.OperKind.TheVariants as kinds
use Rattle.fc_path.specs.declared.oper.Oper.{Oper}
use Rattle.fc_path.specs.declared.oper.Oper.TheVariants as oper
use Rattle.fc_path.specs.declared.oper.Select.{Select}
use Rattle.fc_path.specs.declared.path.Key.{Key}
use Rattle.fc_path.specs.declared.path.PathData.{PathData}
use Rattle.fc_path.specs.declared.path.Body.{Body}
use Rattle.fc_path.specs.declared.path.Body.TheFolds.{fold-PathData, fold-Body}
use Rattle.fc_path.specs.declared.path.Body.TheOpen.{Body-F, PathData-F}
use Rattle.fc_msg.specs.declared.message.Message.{Message}
use Rattle.fc_msg.specs.declared.message.MsgBody.{MsgBody}
use Rattle.fc_msg.specs.declared.message.MsgBody.TheVariants.{Setup, SetupResponse, Teardown, Config, ConfigResponse, Query, QueryResponse, Event, Heartbeat}

-- the names of the types of messages
abbrev pub body_name : MsgBody → List ℕ
body_name (Setup selects) = codes "AssociationSetup"
body_name (SetupResponse result) = codes "AssociationSetupResponse"
body_name (Teardown reason) = codes "AssociationTeardown"
body_name (Config selects) = codes "Config"
body_name (ConfigResponse selects) = codes "ConfigResponse"
body_name (Query selects) = codes "Query"
body_name (QueryResponse selects) = codes "QueryResponse"
body_name (Event selects) = codes "EventNotification"
body_name Heartbeat = codes "Heartbeat"

-- the names of the operations
abbrev pub kind_name : OperKind → List ℕ
kind_name kinds.Set = codes "SET"
kind_name kinds.SetProp = codes "SET-PROP"
kind_name kinds.SetResponse = codes "SET-RESPONSE"
kind_name kinds.SetPropResponse = codes "SET-PROP-RESPONSE"
kind_name kinds.Del = codes "DEL"
kind_name kinds.DelResponse = codes "DEL-RESPONSE"
kind_name kinds.Get = codes "GET"
kind_name kinds.GetProp = codes "GET-PROP"
kind_name kinds.GetResponse = codes "GET-RESPONSE"
kind_name kinds.GetPropResponse = codes "GET-PROP-RESPONSE"
kind_name kinds.Report = codes "REPORT"

-- the two digits of each byte, or a hyphen for none
abbrev pub bytes_text : List ℕ → List ℕ
bytes_text [] = codes "-"
bytes_text (byte ∷ bytes) = hex_text (byte ∷ bytes)

-- two spaces for each level
abbrev pub indent : ℕ → List ℕ
indent zero = []
indent (suc level) = 32 ∷ 32 ∷ indent level

-- the line of the header
unfoldable pub fields_text : Message → List ℕ
fields_text m =
    codes " from=" ++ (hex 8 m.source ++ (codes " to=" ++ (hex 8 m.dest
    ++ (codes " corr=" ++ (hex 16 m.corr ++ (codes " flags=" ++ (hex 8 (word_of m.flags) ++ codes "\n")))))))

unfoldable pub head_text : Message → List ℕ
head_text m = body_name m.body ++ fields_text m

-- the line of a PATH-DATA: its IDs, and its key where it has one
abbrev pub id_text : ℕ → List ℕ
id_text id = 32 ∷ decimal id

abbrev pub key_text : Option Key → List ℕ
key_text None = []
key_text (Some key) = codes " key " ++ (decimal key.ident ++ (32 ∷ bytes_text key.value))

unfoldable pub path_line : ℕ → List ℕ → Option Key → List ℕ
path_line level ids key = indent level ++ (codes "path" ++ (flat_map id_text ids ++ (key_text key ++ codes "\n")))

-- the lines of a body that holds no PATH-DATA
unfoldable pub full_text : ℕ → List ℕ → List ℕ
full_text level value = indent level ++ (codes "full " ++ (bytes_text value ++ codes "\n"))

unfoldable pub ilv_text : ℕ → Ilv → List ℕ
ilv_text level ilv =
    indent level ++ (codes "ilv " ++ (decimal ilv.ident ++ (32 ∷ (bytes_text ilv.value ++ codes "\n"))))

unfoldable pub sparse_text : ℕ → List Ilv → List ℕ
sparse_text level ilvs = indent level ++ (codes "sparse\n" ++ flat_map (ilv_text (level + 1)) ilvs)

unfoldable pub code_text : ℕ → ℕ → List ℕ
code_text level code = indent level ++ (codes "code " ++ (hex 2 code ++ codes "\n"))

-- the lines of a body and of a PATH-DATA at a level
abbrev pub AtLevel : Type 0
AtLevel = ℕ → List ℕ

abbrev pub body_at : Body-F AtLevel AtLevel → AtLevel
body_at Body-F.Nothing level = []
body_at (Body-F.Full value) level = full_text level value
body_at (Body-F.Sparse ilvs) level = sparse_text level ilvs
body_at (Body-F.Outcome code) level = code_text level code
body_at (Body-F.Nested paths) level = flat_map (λ path. path level) paths

abbrev pub path_at : PathData-F AtLevel AtLevel → AtLevel
path_at path level = path_line level path.ids path.key ++ path.body (level + 1)

abbrev pub path_text : PathData → AtLevel
path_text = fold-PathData AtLevel AtLevel body_at path_at

abbrev pub body_text : Body → AtLevel
body_text = fold-Body AtLevel AtLevel body_at path_at

-- the lines of an operation, which stands at the second level
unfoldable pub oper_line : List ℕ → List ℕ
oper_line name = codes "    " ++ (name ++ codes "\n")

abbrev pub response_text : ℕ → List ℕ
response_text code = oper_line (codes "COMMIT-RESPONSE") ++ code_text 3 code

abbrev pub oper_text : Oper → List ℕ
oper_text (oper.Paths kind paths) = oper_line (kind_name kind) ++ flat_map (λ path. path_text path 3) paths
oper_text oper.Commit = oper_line (codes "COMMIT")
oper_text oper.Trcomp = oper_line (codes "TRCOMP")
oper_text (oper.CommitResponse code) = response_text code

-- the lines of an LFBselect, which stands at the first level
unfoldable pub select_line : ℕ → ℕ → List ℕ
select_line class instance = codes "  lfb " ++ (hex 8 class ++ (codes " " ++ (hex 8 instance ++ codes "\n")))

abbrev pub select_text : Select → List ℕ
select_text s = select_line s.class s.instance ++ flat_map oper_text s.opers

abbrev pub selects_text : List Select → List ℕ
selects_text selects = flat_map select_text selects

-- the lines of a body
abbrev pub number_text : List ℕ → ℕ → List ℕ
number_text name n = name ++ (decimal n ++ codes "\n")

abbrev pub content_text : MsgBody → List ℕ
content_text (Setup selects) = selects_text selects
content_text (SetupResponse result) = number_text (codes "  result ") result
content_text (Teardown reason) = number_text (codes "  reason ") reason
content_text (Config selects) = selects_text selects
content_text (ConfigResponse selects) = selects_text selects
content_text (Query selects) = selects_text selects
content_text (QueryResponse selects) = selects_text selects
content_text (Event selects) = selects_text selects
content_text Heartbeat = []

-- the whole text
unfoldable pub message_text : Message → List ℕ
message_text m = head_text m ++ content_text m.body
