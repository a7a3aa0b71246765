-- How a command ends, from how its parts ended.
use Rattle.std.proofs.Common.{◌≡◌, ◌⊎◌, ◌∙◌, ◌++◌, ℕ, List, [], inl, inr, Bool, true, false, None, Option, Some, Result, Ok, Err, IfOk, OnOk, OnErr, refl, sym, ap, subst, append-nil}
use Rattle.std.specs.Io.KnownBytes.{Appends, Keeps}
use Rattle.std.proofs.KnownBytes.{Appends-kept, Appends-nil}
use Rattle.fc_base.specs.Causes.{Rose}
use Rattle.fc_base.specs.Content.{AppendsFront}
use Rattle.fc_endings.specs.declared.stops.Stop.{Stop}
use Rattle.fc_endings.specs.declared.stops.Stop.TheVariants.{WriteFault, NoMemory}
use Rattle.fc_endings.specs.Endings.{CommandEnds, EndCount, RoseIf}

-- nothing was written of a text
pub none_written : (known : Option (List ℕ)) (text : List ℕ) → AppendsFront known known text
none_written known text = ([], text, refl, Appends-nil known)

-- all of it was
pub whole_front : (a b : Option (List ℕ)) (xs : List ℕ) → Appends a b xs → AppendsFront a b xs
whole_front a b xs lines = (xs, [], sym (append-nil xs), lines)

-- the same was appended to the same
pub same_text : (old : List ℕ) (new other : Option (List ℕ)) (s t : List ℕ) → Appends (Some old) new s → Appends (Some old) other t → s ≡ t → new ≡ other
same_text old None other s t one two is = absurd one
same_text old (Some new) None s t one two is = absurd two
same_text old (Some new) (Some other) s t one two is = ap Some (one ∙ ap (λ l. old ++ l) is ∙ sym two)

-- it came to an end, and of what is to be written then a front was
pub cut_short : (E : Type 0) (Went : E → List ℕ → Type 0) (Lacked : Type 0) (stop : Stop) (end : E) (old new : Option (List ℕ)) (written : List ℕ)
    → Went end written → AppendsFront old new written → CommandEnds E Went Lacked (Err stop) old new
cut_short E Went Lacked WriteFault end old new written went front = (end, written, went, front)
cut_short E Went Lacked NoMemory end old new written went front = inl (end, written, went, front)

-- it came to this end, and all that is to be written was written, or a front of it
pub told_ends : (E : Type 0) (Went : E → List ℕ → Type 0) (Lacked : Type 0) (how : Result E Stop) (end : E) (old new : Option (List ℕ)) (written : List ℕ)
    → Went end written → IfOk how (λ last. last ≡ end) → OnOk how (Appends old new written) → OnErr how (AppendsFront old new written) → CommandEnds E Went Lacked how old new
told_ends E Went Lacked (Ok last) end old new written went is wrote front = (written, subst (λ e. Went e written) (sym is) went, wrote)
told_ends E Went Lacked (Err stop) end old new written went is wrote front = cut_short E Went Lacked stop end old new written went front

-- all was written, and then flushed
flushed_ends : (E : Type 0) (Went : E → List ℕ → Type 0) (Lacked : Type 0) (end : E) (old mid new : Option (List ℕ))
    → CommandEnds E Went Lacked (Ok end) old mid → Keeps mid new → CommandEnds E Went Lacked (Ok end) old new
flushed_ends E Went Lacked end old mid new (written, went, wrote) kept = (written, went, Appends-kept old mid new written wrote kept)

-- all was written, and the flush stopped
unflushed_ends : (E : Type 0) (Went : E → List ℕ → Type 0) (Lacked : Type 0) (stop : Stop) (end : E) (old mid new : Option (List ℕ))
    → CommandEnds E Went Lacked (Ok end) old mid → Keeps mid new → CommandEnds E Went Lacked (Err stop) old new
unflushed_ends E Went Lacked stop end old mid new (written, went, wrote) kept =
    cut_short E Went Lacked stop end old new written went (whole_front old new written (Appends-kept old mid new written wrote kept))

-- all was written, and then flushed, or the flush stopped
pub finished_ends : (E : Type 0) (Went : E → List ℕ → Type 0) (Lacked : Type 0) (end : E) (how : Result E Stop) (old mid new : Option (List ℕ))
    → CommandEnds E Went Lacked (Ok end) old mid → IfOk how (λ last. last ≡ end) → Keeps mid new → CommandEnds E Went Lacked how old new
finished_ends E Went Lacked end (Ok last) old mid new ends is kept =
    subst (λ e. CommandEnds E Went Lacked (Ok e) old new) (sym is) (flushed_ends E Went Lacked end old mid new ends kept)
finished_ends E Went Lacked end (Err stop) old mid new ends is kept = unflushed_ends E Went Lacked stop end old mid new ends kept

-- what holds of a part holds of the whole
pub widened : (E : Type 0) (Went Wider : E → List ℕ → Type 0) (Lacked Lacks : Type 0) (how : Result E Stop) (old new : Option (List ℕ))
    → ((end : E) (written : List ℕ) → Went end written → Wider end written) → (Lacked → Lacks)
    → CommandEnds E Went Lacked how old new → CommandEnds E Wider Lacks how old new
widened E Went Wider Lacked Lacks (Ok end) old new wider lacks (written, went, wrote) = (written, wider end written went, wrote)
widened E Went Wider Lacked Lacks (Err WriteFault) old new wider lacks (end, written, went, front) = (end, written, wider end written went, front)
widened E Went Wider Lacked Lacks (Err NoMemory) old new wider lacks (inl (end, written, went, front)) = inl (end, written, wider end written went, front)
widened E Went Wider Lacked Lacks (Err NoMemory) old new wider lacks (inr (lacked, nothing)) = inr (lacks lacked, nothing)

rose_or_not : (failed : Bool) (before now : ℕ) → RoseIf failed before now → (now ≡ before) ⊎ Rose before now
rose_or_not true before now count = inr count
rose_or_not false before now count = inl count

-- the count after the flush
pub finished_count : (E : Type 0) (failed : E → Bool) (end : E) (how : Result E Stop) (before now : ℕ) → EndCount failed (Ok end) before now → IfOk how (λ last. last ≡ end)
    → EndCount failed how before now
finished_count E failed end (Ok last) before now count is = subst (λ e. RoseIf (failed e) before now) (sym is) count
finished_count E failed end (Err stop) before now count is = rose_or_not (failed end) before now count
