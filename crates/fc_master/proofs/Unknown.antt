-- A life of which nothing is known yet.
use Rattle.std.proofs.Common.{◌≡◌, ℕ, ◌==◌, Bool, true, false, cond, List, [], ◌∷◌, map, None, refl, ap, ◌∙◌}
use Rattle.std.proofs.Math.Path.{fun_ext}
use Rattle.fc_protocol.specs.MasterMachine.{Peer, new_master, new_peer}
use Rattle.fc_jobs.specs.Seats.{elements_of, new_seat, peer_at}
use Rattle.fc_jobs.specs.Sending.{core_by, nothing_begun}

either : {A : Type 0} (b : Bool) (x : A) → cond b x x ≡ x
either true x = refl
either false x = refl

pub same_elements : (es : List ℕ) → elements_of (map new_seat es) ≡ es
same_elements [] = refl
same_elements (p ∷ ps) = ap (λ qs. p ∷ qs) (same_elements ps)

unknown_at : (e : ℕ) (es : List ℕ) (q : ℕ) → peer_at e None (map new_seat es) q ≡ new_peer
unknown_at e [] q = refl
unknown_at e (p ∷ ps) q = ap (cond (q == p) new_peer) (unknown_at e ps q) ∙ either (q == p) new_peer

pub all_unknown : (e : ℕ) (es : List ℕ) → peer_at e None (map new_seat es) ≡ (λ _. new_peer)
all_unknown e es = fun_ext (unknown_at e es)

-- a life of which nothing is known yet, as the protocol's master
pub fresh : (e : ℕ) (es : List ℕ) → core_by e (map new_seat es) [] nothing_begun None ≡ new_master e es
fresh e es =
    ap (λ (qs : List ℕ). record { epoch = e; elements = qs; at = peer_at e None (map new_seat es); jobs = []; begun = 0; deposed = None }) (same_elements es)
    ∙ ap (λ (t : ℕ → Peer). record { epoch = e; elements = es; at = t; jobs = []; begun = 0; deposed = None }) (all_unknown e es)
