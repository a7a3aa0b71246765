-- The types of TLVs, RFC 5810, section 7.1 and appendix A.
use Rattle.std.specs.Prelude.{ℕ}

abbrev pub select : ℕ
select = 4096

abbrev pub path_data : ℕ
path_data = 272

abbrev pub key_info : ℕ
key_info = 273

abbrev pub full_data : ℕ
full_data = 274

abbrev pub sparse_data : ℕ
sparse_data = 275

abbrev pub outcome : ℕ
outcome = 276

-- the operations of a transaction
abbrev pub commit : ℕ
commit = 12

abbrev pub commit_response : ℕ
commit_response = 13

abbrev pub trcomp : ℕ
trcomp = 14
