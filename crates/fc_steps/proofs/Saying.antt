-- A text says a step exactly where it is what is written for it.
use Rattle.std.proofs.Common.{◌≡◌, ◌<◌, ◌≤◌, ◌^◌, ◌/◌, ◌%◌, ℕ, nat_le, nat_lt, ◌&&◌, Bool, true, false, List, [], ◌∷◌, ◌++◌, codes, decimal, Option, Some, None, if◌then◌else◌, refl, ap, ap₂, ◌∙◌, subst, arith}
use Rattle.std.specs.Str.{bytes_eq}
use Rattle.std.specs.Str.Parse.{digits_value}
use Rattle.std.proofs.lemmas.Bool.{and_parts, le-leb, leb-true, lt-ltb, ltb-true}
use Rattle.std.proofs.lemmas.Fmt.{decimal_is_IsNumeral}
use Rattle.std.proofs.lemmas.Option.{same_Some}
use Rattle.std.proofs.lemmas.Slice.Eq.{bytes_eq-Decides}
use Rattle.fc_base.specs.Ids.{IsFe, IsRound, IsEpoch, Txn, txn_text}
use Rattle.fc_steps.specs.Words.{given, cut, number, controller, element, round, long, if_epoch, epoch, txn, is_name}
use Rattle.fc_steps.specs.Steps.{text_of, of_one, of_two, name, from_to, range, or_range, deliveries, of_name, step_of, IsController, IsLong, IsTxn, CanSay}
use Rattle.fc_steps.specs.declared.step.Step.{Step}
use Rattle.fc_steps.specs.declared.step.Step.TheVariants as step
use Rattle.fc_steps.specs.declared.step.StepText.{StepText}
use Rattle.fc_steps.specs.declared.step.StepText.TheVariants.{One, Deliveries}
use Rattle.fc_steps.proofs.Numbers.{kept, number_sound, number_complete, number_none}
use Rattle.fc_steps.proofs.Cuts.{lacks, both, given_some, cut_at, cut_is, digits_lack, has_mark}

-- ---- words: what is read is what is written for it, and the other way round
record Reads {A : Type 0} (read : List ℕ → Option A) (Can : A → Type 0) (text : A → List ℕ) : Type 0 where
  sound : (word : List ℕ) (a : A) → read word ≡ Some a → Can a × (word ≡ text a)
  complete : (a : A) → Can a → read (text a) ≡ Some a

small_digits : (mark n : ℕ) → mark < 48 → n < 2 ^ 64 → lacks mark (decimal n) ≡ true
small_digits mark n low small = digits_lack mark (decimal n) low (decimal_is_IsNumeral n small).0.1

reads_number : (low most : ℕ) (Can : ℕ → Type 0) → most < 2 ^ 64 → ((n : ℕ) → low ≤ n → n ≤ most → Can n) → ((n : ℕ) → Can n → (low ≤ n) × (n ≤ most)) → Reads (number low most) Can decimal
reads_number low most Can small from to = record {
  sound = λ word n e. let s = number_sound low most word n e in (from n s.1.0 s.1.1, s.0);
  complete = λ n can. number_complete low most (decimal n) n small (refl, to n can);
}

reads_controller : Reads controller IsController decimal
reads_controller = reads_number 0 255 IsController (omega arith) (λ n low high. omega (arith, high)) (λ n can. (omega arith, omega (arith, can)))

reads_element : Reads element IsFe decimal
reads_element = reads_number 1 1073741823 IsFe (omega arith) (λ n low high. (omega (arith, low), omega (arith, high))) (λ n can. (omega (arith, can.0), omega (arith, can.1)))

reads_round : Reads round IsRound decimal
reads_round = reads_number 1 16777215 IsRound (omega arith) (λ n low high. (omega (arith, low), omega (arith, high))) (λ n can. (omega (arith, can.0), omega (arith, can.1)))

reads_long : Reads long IsLong decimal
reads_long = reads_number 0 18446744073709551615 IsLong (omega arith) (λ n low high. omega (arith, high)) (λ n can. (omega arith, omega (arith, can)))

abbrev IsWord : ℕ → Type 0
IsWord n = n < 2 ^ 32

abbrev IsTxnNumber : ℕ → Type 0
IsTxnNumber n = (0 < n) × (n < 2 ^ 32)

reads_word : Reads (number 0 4294967295) IsWord decimal
reads_word = reads_number 0 4294967295 IsWord (omega arith) (λ n low high. omega (arith, high)) (λ n can. (omega arith, omega (arith, can)))

reads_txn_number : Reads (number 1 4294967295) IsTxnNumber decimal
reads_txn_number =
    reads_number 1 4294967295 IsTxnNumber (omega arith) (λ n low high. (omega (arith, low), omega (arith, high))) (λ n can. (omega (arith, can.0), omega (arith, can.1)))

-- a life
epoch_kept : (m n : ℕ) → if_epoch m ≡ Some n → ((0 < m / 256) × (0 < m % 256)) × (m ≡ n)
epoch_kept m n e =
    let (test, same) = kept (nat_lt 0 (m / 256) && nat_lt 0 (m % 256)) m n e in
    let (high, low) = and_parts (nat_lt 0 (m / 256)) (nat_lt 0 (m % 256)) test in
    ((ltb-true 0 (m / 256) high, ltb-true 0 (m % 256) low), same)

epoch_sound : (word : List ℕ) (n : ℕ) → epoch word ≡ Some n → IsEpoch n × (word ≡ decimal n)
epoch_sound word n e =
    let (m, read, more) = given_some (number 0 4294967295 word) if_epoch n e in
    let (parts, same) = epoch_kept m n more in
    let (small, is) = reads_word.sound word m read in
    subst (λ (k : ℕ). IsEpoch k × (word ≡ decimal k)) same ((parts.0, parts.1, small), is)

stands : {A : Type 0} (b : Bool) (x : A) → b ≡ true → (if b then Some x else None) ≡ Some x
stands true x h = refl
stands false x h = cc

epoch_complete : (n : ℕ) → IsEpoch n → epoch (decimal n) ≡ Some n
epoch_complete n (high, low, small) =
    ap (λ o. given o if_epoch) (reads_word.complete n small)
    ∙ stands (nat_lt 0 (n / 256) && nat_lt 0 (n % 256)) n (both (nat_lt 0 (n / 256)) (nat_lt 0 (n % 256)) (lt-ltb 0 (n / 256) high) (lt-ltb 0 (n % 256) low))

reads_epoch : Reads epoch IsEpoch decimal
reads_epoch = record { sound = epoch_sound; complete = epoch_complete }

-- a transaction
abbrev of_life : ℕ → ℕ → Txn
of_life e n = record { epoch = e; number = n }

abbrev txn_number : List ℕ → ℕ → Option Txn
txn_number word e = given (number 1 4294967295 word) λ n. Some (of_life e n)

abbrev txn_parts : List ℕ × List ℕ → Option Txn
txn_parts p = given (epoch p.0) (txn_number p.1)

txn_sound : (word : List ℕ) (x : Txn) → txn word ≡ Some x → IsTxn x × (word ≡ txn_text x)
txn_sound word x e =
    let (p, at, rest) = given_some (cut 46 word) txn_parts x e in
    let (l, life, more) = given_some (epoch p.0) (txn_number p.1) x rest in
    let (n, last, made) = given_some (number 1 4294967295 p.1) (λ n. Some (of_life l n)) x more in
    let (can_l, is_l) = epoch_sound p.0 l life in
    let (can_n, is_n) = reads_txn_number.sound p.1 n last in
    subst (λ (y : Txn). IsTxn y × (word ≡ txn_text y)) (same_Some _ _ made)
    ((can_l, can_n.0, can_n.1), cut_is 46 word p at ∙ ap₂ (λ (a b : List ℕ). a ++ 46 ∷ b) is_l is_n)

txn_complete : (x : Txn) → IsTxn x → txn (txn_text x) ≡ Some x
txn_complete x (life, some, small) =
    ap (λ o. given o txn_parts) (cut_at 46 (decimal x.epoch) (decimal x.number) (small_digits 46 x.epoch (omega arith) (omega (arith, life.2))))
    ∙ ap (λ o. given o (txn_number (decimal x.number))) (epoch_complete x.epoch life)
    ∙ ap (λ o. given o (λ n. Some (of_life x.epoch n))) (reads_txn_number.complete x.number (some, small))

reads_txn : Reads txn IsTxn txn_text
reads_txn = record { sound = txn_sound; complete = txn_complete }

-- a name
abbrev IsName : List ℕ → Type 0
IsName n = is_name n ≡ true

abbrev as_it_stands : List ℕ → List ℕ
as_it_stands n = n

name_sound : (word n : List ℕ) → name word ≡ Some n → IsName n × (word ≡ as_it_stands n)
name_sound word n e = let (test, same) = kept (is_name word) word n e in subst (λ (m : List ℕ). IsName m × (word ≡ m)) same (test, refl)

reads_name : Reads name IsName as_it_stands
reads_name = record { sound = name_sound; complete = λ n can. stands (is_name n) n can }

-- ---- what stands behind the name of a step
module _ {A : Type 0} (read : List ℕ → Option A) (Can : A → Type 0) (text : A → List ℕ) (reads : Reads read Can text) (make : A → Step) where
  record SaysOne (rest : List ℕ) (s : StepText) : Type 0 where
    value : A
    can : Can value
    spelled : rest ≡ text value
    made : One (make value) ≡ s

  one_sound : (rest : List ℕ) (s : StepText) → of_one read make rest ≡ Some s → SaysOne rest s
  one_sound rest s e =
      let (a, is, made) = given_some (read rest) (λ a. Some (One (make a))) s e in
      let (can, spelled) = reads.sound rest a is in
      record { value = a; can = can; spelled = spelled; made = same_Some _ _ made }

  one_complete : (a : A) → Can a → of_one read make (text a) ≡ Some (One (make a))
  one_complete a can = ap (λ o. given o (λ x. Some (One (make x)))) (reads.complete a can)

module _ {A B : Type 0} (first : List ℕ → Option A) (CanFirst : A → Type 0) (firsts : A → List ℕ) (second : List ℕ → Option B) (CanSecond : B → Type 0) (seconds : B → List ℕ)
    (reads_first : Reads first CanFirst firsts) (reads_second : Reads second CanSecond seconds) (make : A → B → Step) where
  abbrev behind_first : List ℕ → A → Option StepText
  behind_first word a = given (second word) λ b. Some (One (make a b))

  abbrev in_parts : List ℕ × List ℕ → Option StepText
  in_parts p = given (first p.0) (behind_first p.1)

  record SaysTwo (rest : List ℕ) (s : StepText) : Type 0 where
    value : A
    other : B
    can : CanFirst value
    can_too : CanSecond other
    spelled : rest ≡ firsts value ++ 32 ∷ seconds other
    made : One (make value other) ≡ s

  two_sound : (rest : List ℕ) (s : StepText) → of_two first second make rest ≡ Some s → SaysTwo rest s
  two_sound rest s e =
      let (p, at, more) = given_some (cut 32 rest) in_parts s e in
      let (a, is, last) = given_some (first p.0) (behind_first p.1) s more in
      let (b, is_too, made) = given_some (second p.1) (λ b. Some (One (make a b))) s last in
      let (can, spelled) = reads_first.sound p.0 a is in
      let (can_too, spelled_too) = reads_second.sound p.1 b is_too in
      record {
        value = a;
        other = b;
        can = can;
        can_too = can_too;
        spelled = cut_is 32 rest p at ∙ ap₂ (λ (v w : List ℕ). v ++ 32 ∷ w) spelled spelled_too;
        made = same_Some _ _ made;
      }

  two_complete : (a : A) (b : B) → CanFirst a → CanSecond b → lacks 32 (firsts a) ≡ true → of_two first second make (firsts a ++ 32 ∷ seconds b) ≡ Some (One (make a b))
  two_complete a b can can_too free =
      ap (λ o. given o in_parts) (cut_at 32 (firsts a) (seconds b) free)
      ∙ ap (λ o. given o (behind_first (seconds b))) (reads_first.complete a can)
      ∙ ap (λ o. given o (λ x. Some (One (make a x)))) (reads_second.complete b can_too)

-- ---- deliveries
abbrev last_of : List ℕ → ℕ → Option StepText
last_of word first = given (long word) (from_to first)

abbrev range_parts : List ℕ × List ℕ → Option StepText
range_parts p = given (long p.0) (last_of p.1)

record SaysRange (rest : List ℕ) (s : StepText) : Type 0 where
  first : ℕ
  last : ℕ
  can : IsLong first
  can_too : IsLong last
  rising : first ≤ last
  spelled : rest ≡ decimal first ++ 45 ∷ decimal last
  made : Deliveries first last ≡ s

range_sound : (rest : List ℕ) (s : StepText) → range rest ≡ Some s → SaysRange rest s
range_sound rest s e =
    let (p, at, more) = given_some (cut 45 rest) range_parts s e in
    let (a, is, behind) = given_some (long p.0) (last_of p.1) s more in
    let (b, is_too, last) = given_some (long p.1) (from_to a) s behind in
    let (test, made) = kept (nat_le a b) (Deliveries a b) s last in
    let (can, spelled) = reads_long.sound p.0 a is in
    let (can_too, spelled_too) = reads_long.sound p.1 b is_too in
    record {
      first = a;
      last = b;
      can = can;
      can_too = can_too;
      rising = leb-true a b test;
      spelled = cut_is 45 rest p at ∙ ap₂ (λ (v w : List ℕ). v ++ 45 ∷ w) spelled spelled_too;
      made = made;
    }

-- whatever is known of the text of one delivery and of that of a range is known of both
delivery_told : {X : Type 0} (rest : List ℕ) (s : StepText) → ((i : ℕ) → IsLong i → rest ≡ decimal i → One (step.Deliver i) ≡ s → X) → (SaysRange rest s → X)
    → (o : Option ℕ) → long rest ≡ o → or_range rest o ≡ Some s → X
delivery_told rest s one many (Some i) is e = let (can, spelled) = reads_long.sound rest i is in one i can spelled (same_Some _ _ e)
delivery_told rest s one many None is e = many (range_sound rest s e)

no_long : (first last : ℕ) → long (decimal first ++ 45 ∷ decimal last) ≡ None
no_long first last =
    number_none 0 18446744073709551615 (decimal first ++ 45 ∷ decimal last) λ s.
    let n = digits_value 10 (decimal first ++ 45 ∷ decimal last) in
    let small : n < 2 ^ 64 = omega (arith, s.1.1) in
    has_mark 45 (decimal first) (decimal last) (ap (lacks 45) s.0 ∙ small_digits 45 n (omega arith) small)

range_complete : (first last : ℕ) → IsLong first → IsLong last → first ≤ last → deliveries (decimal first ++ 45 ∷ decimal last) ≡ Some (Deliveries first last)
range_complete first last can can_too rising =
    ap (or_range (decimal first ++ 45 ∷ decimal last)) (no_long first last)
    ∙ ap (λ o. given o range_parts) (cut_at 45 (decimal first) (decimal last) (small_digits 45 first (omega arith) can))
    ∙ ap (λ o. given o (last_of (decimal last))) (reads_long.complete first can)
    ∙ ap (λ o. given o (from_to first)) (reads_long.complete last can_too)
    ∙ stands (nat_le first last) (Deliveries first last) (le-leb first last rising)

delivery_complete : (i : ℕ) → IsLong i → deliveries (decimal i) ≡ Some (One (step.Deliver i))
delivery_complete i can = ap (or_range (decimal i)) (reads_long.complete i can)

-- ---- the name of a step
abbrev Said : StepText → List ℕ → Type 0
Said s text = CanSay s × (text ≡ text_of s)

-- a text whose name is known
module _ (word rest text : List ℕ) (is : text ≡ word ++ 32 ∷ rest) (s : StepText) where
  spelled_by : (name told : List ℕ) → word ≡ name → rest ≡ told → text ≡ name ++ 32 ∷ told
  spelled_by name told named told_so = is ∙ ap₂ (λ (v w : List ℕ). v ++ 32 ∷ w) named told_so

  said : (t : StepText) → t ≡ s → CanSay t → text ≡ text_of t → Said s text
  said t same can spelled = subst (λ u. Said u text) same (can, spelled)

  open_said : word ≡ codes "open" → of_two element controller step.Open rest ≡ Some s → Said s text
  open_said named e =
      let h = two_sound element IsFe decimal controller IsController decimal reads_element reads_controller step.Open rest s e in
      said (One (step.Open h.value h.other)) h.made (h.can, h.can_too) (spelled_by _ _ named h.spelled)

  moment_said : word ≡ codes "moment" → of_two element long step.Moment rest ≡ Some s → Said s text
  moment_said named e =
      let h = two_sound element IsFe decimal long IsLong decimal reads_element reads_long step.Moment rest s e in
      said (One (step.Moment h.value h.other)) h.made (h.can, h.can_too) (spelled_by _ _ named h.spelled)

  start_said : word ≡ codes "start" → of_two controller round step.Start rest ≡ Some s → Said s text
  start_said named e =
      let h = two_sound controller IsController decimal round IsRound decimal reads_controller reads_round step.Start rest s e in
      said (One (step.Start h.value h.other)) h.made (h.can, h.can_too) (spelled_by _ _ named h.spelled)

  begin_said : word ≡ codes "begin" → of_two controller name step.Begin rest ≡ Some s → Said s text
  begin_said named e =
      let h = two_sound controller IsController decimal name IsName as_it_stands reads_controller reads_name step.Begin rest s e in
      said (One (step.Begin h.value h.other)) h.made (h.can, h.can_too) (spelled_by _ _ named h.spelled)

  plain_said : word ≡ codes "plain" → of_two controller name step.Plain rest ≡ Some s → Said s text
  plain_said named e =
      let h = two_sound controller IsController decimal name IsName as_it_stands reads_controller reads_name step.Plain rest s e in
      said (One (step.Plain h.value h.other)) h.made (h.can, h.can_too) (spelled_by _ _ named h.spelled)

  give_up_said : word ≡ codes "giveup" → of_two controller txn step.GiveUp rest ≡ Some s → Said s text
  give_up_said named e =
      let h = two_sound controller IsController decimal txn IsTxn txn_text reads_controller reads_txn step.GiveUp rest s e in
      said (One (step.GiveUp h.value h.other)) h.made (h.can, h.can_too) (spelled_by _ _ named h.spelled)

  resend_said : word ≡ codes "resend" → of_two controller element step.Resend rest ≡ Some s → Said s text
  resend_said named e =
      let h = two_sound controller IsController decimal element IsFe decimal reads_controller reads_element step.Resend rest s e in
      said (One (step.Resend h.value h.other)) h.made (h.can, h.can_too) (spelled_by _ _ named h.spelled)

  stop_said : word ≡ codes "stop" → of_one controller step.Stop rest ≡ Some s → Said s text
  stop_said named e =
      let h = one_sound controller IsController decimal reads_controller step.Stop rest s e in
      said (One (step.Stop h.value)) h.made h.can (spelled_by _ _ named h.spelled)

  forget_said : word ≡ codes "forget" → of_one controller step.Forget rest ≡ Some s → Said s text
  forget_said named e =
      let h = one_sound controller IsController decimal reads_controller step.Forget rest s e in
      said (One (step.Forget h.value)) h.made h.can (spelled_by _ _ named h.spelled)

  restart_said : word ≡ codes "restart" → of_one element step.Restart rest ≡ Some s → Said s text
  restart_said named e =
      let h = one_sound element IsFe decimal reads_element step.Restart rest s e in
      said (One (step.Restart h.value)) h.made h.can (spelled_by _ _ named h.spelled)

  delivery_said : word ≡ codes "deliver" → deliveries rest ≡ Some s → Said s text
  delivery_said named e =
      delivery_told rest s (λ i can spelled made. said (One (step.Deliver i)) made can (spelled_by _ _ named spelled))
      (λ h. said (Deliveries h.first h.last) h.made (h.can, h.can_too, h.rising) (spelled_by _ _ named h.spelled))
      (long rest) refl e

-- the first of some names that it is
abbrev Named : Type 0
Named = List ℕ × Option StepText

abbrev named_in : List ℕ → List Named → Option StepText
named_in word [] = None
named_in word (n ∷ ns) = if bytes_eq word n.0 then n.1 else named_in word ns

-- whatever each of them tells
abbrev TellsEach : Type 0 → List ℕ → StepText → List Named → Type 0
TellsEach X word s [] = Unit
TellsEach X word s (n ∷ ns) = (word ≡ n.0 → n.1 ≡ Some s → X) × TellsEach X word s ns

told_first : {X : Type 0} (b : Bool) (here there : Option StepText) (s : StepText) → (b ≡ true → here ≡ Some s → X) → (there ≡ Some s → X) → (if b then here else there) ≡ Some s → X
told_first true here there s first later e = first refl e
told_first false here there s first later e = later e

told_in : {X : Type 0} (word : List ℕ) (s : StepText) (ns : List Named) → TellsEach X word s ns → named_in word ns ≡ Some s → X
told_in word s [] each e = cc
told_in word s (n ∷ ns) each e =
    told_first (bytes_eq word n.0) n.1 (named_in word ns) s (λ same here. each.0 ((bytes_eq-Decides word n.0).0 same) here) (λ there. told_in word s ns each.1 there) e

abbrev names : List ℕ → List Named
names rest =
    (codes "open", of_two element controller step.Open rest)
    ∷ (codes "deliver", deliveries rest)
    ∷ (codes "moment", of_two element long step.Moment rest)
    ∷ (codes "start", of_two controller round step.Start rest)
    ∷ (codes "stop", of_one controller step.Stop rest)
    ∷ (codes "begin", of_two controller name step.Begin rest)
    ∷ (codes "plain", of_two controller name step.Plain rest)
    ∷ (codes "giveup", of_two controller txn step.GiveUp rest)
    ∷ (codes "resend", of_two controller element step.Resend rest)
    ∷ (codes "forget", of_one controller step.Forget rest)
    ∷ (codes "restart", of_one element step.Restart rest)
    ∷ []

name_said : (word rest text : List ℕ) (s : StepText) → text ≡ word ++ 32 ∷ rest → of_name word rest ≡ Some s → Said s text
name_said word rest text s is e =
    told_in {X = Said s text} word s (names rest) (
      open_said word rest text is s,
      (
        delivery_said word rest text is s,
        (
          moment_said word rest text is s,
          (
            start_said word rest text is s,
            (
              stop_said word rest text is s,
              (
                begin_said word rest text is s,
                (
                  plain_said word rest text is s,
                  (
                    give_up_said word rest text is s,
                    (
                      resend_said word rest text is s,
                      (forget_said word rest text is s, (restart_said word rest text is s, tt)),
                    ),
                  ),
                ),
              ),
            ),
          ),
        ),
      ),
    ) e

abbrev by_name : List ℕ × List ℕ → Option StepText
by_name p = of_name p.0 p.1

pub step_said : (text : List ℕ) (s : StepText) → step_of text ≡ Some s → CanSay s × (text ≡ text_of s)
step_said text s e =
    let (p, at, more) = given_some (cut 32 text) by_name s e in
    name_said p.0 p.1 text s (cut_is 32 text p at) more

-- ---- and what is written is read
behind_name : (name rest : List ℕ) (s : StepText) → lacks 32 name ≡ true → of_name name rest ≡ Some s → step_of (name ++ 32 ∷ rest) ≡ Some s
behind_name name rest s free is = ap (λ o. given o by_name) (cut_at 32 name rest free) ∙ is

digits_free : (n : ℕ) → n < 2 ^ 64 → lacks 32 (decimal n) ≡ true
digits_free n small = small_digits 32 n (omega arith) small

controller_free : (n : ℕ) → IsController n → lacks 32 (decimal n) ≡ true
controller_free n can = digits_free n (omega (arith, can))

element_free : (n : ℕ) → IsFe n → lacks 32 (decimal n) ≡ true
element_free n can = digits_free n (omega (arith, can.1))

pub step_written : (s : StepText) → CanSay s → step_of (text_of s) ≡ Some s
step_written (One (step.Open f c)) can =
    behind_name (codes "open") (decimal f ++ 32 ∷ decimal c) _ refl
    (two_complete element IsFe decimal controller IsController decimal reads_element reads_controller step.Open f c can.0 can.1 (element_free f can.0))
step_written (One (step.Deliver i)) can = behind_name (codes "deliver") (decimal i) _ refl (delivery_complete i can)
step_written (One (step.Moment f t)) can =
    behind_name (codes "moment") (decimal f ++ 32 ∷ decimal t) _ refl
    (two_complete element IsFe decimal long IsLong decimal reads_element reads_long step.Moment f t can.0 can.1 (element_free f can.0))
step_written (One (step.Start c r)) can =
    behind_name (codes "start") (decimal c ++ 32 ∷ decimal r) _ refl
    (two_complete controller IsController decimal round IsRound decimal reads_controller reads_round step.Start c r can.0 can.1 (controller_free c can.0))
step_written (One (step.Stop c)) can = behind_name (codes "stop") (decimal c) _ refl (one_complete controller IsController decimal reads_controller step.Stop c can)
step_written (One (step.Begin c n)) can =
    behind_name (codes "begin") (decimal c ++ 32 ∷ n) _ refl
    (two_complete controller IsController decimal name IsName as_it_stands reads_controller reads_name step.Begin c n can.0 can.1 (controller_free c can.0))
step_written (One (step.Plain c n)) can =
    behind_name (codes "plain") (decimal c ++ 32 ∷ n) _ refl
    (two_complete controller IsController decimal name IsName as_it_stands reads_controller reads_name step.Plain c n can.0 can.1 (controller_free c can.0))
step_written (One (step.GiveUp c x)) can =
    behind_name (codes "giveup") (decimal c ++ 32 ∷ txn_text x) _ refl
    (two_complete controller IsController decimal txn IsTxn txn_text reads_controller reads_txn step.GiveUp c x can.0 can.1 (controller_free c can.0))
step_written (One (step.Resend c f)) can =
    behind_name (codes "resend") (decimal c ++ 32 ∷ decimal f) _ refl
    (two_complete controller IsController decimal element IsFe decimal reads_controller reads_element step.Resend c f can.0 can.1 (controller_free c can.0))
step_written (One (step.Forget c)) can = behind_name (codes "forget") (decimal c) _ refl (one_complete controller IsController decimal reads_controller step.Forget c can)
step_written (One (step.Restart f)) can = behind_name (codes "restart") (decimal f) _ refl (one_complete element IsFe decimal reads_element step.Restart f can)
step_written (Deliveries first last) can =
    behind_name (codes "deliver") (decimal first ++ 45 ∷ decimal last) _ refl (range_complete first last can.0 can.1 can.2)
