-- The types of messages, RFC 5810, section 7.1.1 and appendix A.
use Rattle.std.specs.Prelude.{ℕ}

abbrev pub setup : ℕ
setup = 1

abbrev pub teardown : ℕ
teardown = 2

abbrev pub config : ℕ
config = 3

abbrev pub query : ℕ
query = 4

abbrev pub event : ℕ
event = 5

abbrev pub redirect : ℕ
redirect = 6

abbrev pub heartbeat : ℕ
heartbeat = 15

abbrev pub setup_response : ℕ
setup_response = 17

abbrev pub config_response : ℕ
config_response = 19

abbrev pub query_response : ℕ
query_response = 20

-- the types of the TLVs that hold the number of an AssociationSetupResponse, and that of an AssociationTeardown
abbrev pub as_result : ℕ
as_result = 16

abbrev pub as_reason : ℕ
as_reason = 17
