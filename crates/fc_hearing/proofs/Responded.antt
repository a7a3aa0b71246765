-- What an element keeps and sends at a Config is heard as what the protocol says.
use Rattle.std.proofs.Common.{◌≡◌, ◌≢◌, ◌⊎◌, ℕ, List, [], Option, Some, None, refl, sym, ap, ◌∙◌, subst, inl, inr}
use Rattle.std.specs.List.{flat_map}
use Rattle.fc_abiding.specs.Abiding.{IsNamed}
use Rattle.fc_querying.proofs.Answering.{goes}
use Rattle.fc_querying.specs.Answering.{Answers, AreSame, IsReply, codes_in}
use Rattle.fc_asks.specs.Codes.{code_of, select_codes}
use Rattle.fc_msg.specs.declared.message.Message.{Message}
use Rattle.fc_msg.specs.declared.message.MsgBody.{MsgBody}
use Rattle.fc_msg.specs.declared.message.MsgBody.TheVariants as body
use Rattle.fc_path.specs.declared.oper.Select.{Select}
use Rattle.fc_protocol.specs.MasterMachine.{heard}
use Rattle.fc_protocol.specs.Messages as said
use Rattle.fc_protocol.specs.Messages.{stamp}
use Rattle.fc_reply.specs.Replies.{reply}
use Rattle.fc_transactions.specs.Order.{configured}
use Rattle.fc_transactions.specs.State.{TransactionState}
use Rattle.fc_hearing.specs.Hearing.{AnswersAreHeard, AreHeardAs, IsAnswerable, IsHeardAs, ShowsCode}
use Rattle.fc_hearing.proofs.Noticed.{told_others}
use Rattle.fc_hearing.proofs.Shown.{IsShowing, reply_shows}

-- a response that shows a code
reply_by : (source dest corr : ℕ) (flags : _) (selects : List Select) (code : ℕ) → code ≡ code_of (flat_map select_codes selects)
    → IsHeardAs (record { source = source; dest = dest; corr = corr; flags = flags; body = body.ConfigResponse selects }) (said.Reply (stamp corr) code)
reply_by source dest corr flags selects code e = record {
  core = λ c p. ap (λ (n : ℕ). heard c p (said.Reply (stamp corr) n)) (sym e);
  wish = refl;
  calm = λ f life c p. refl;
  silent = λ f k c p. refl;
}

pub reply_heard : (r : Message) (x : said.Message) → ShowsCode r → IsReply r x → IsHeardAs r x
reply_heard r x (selects, is, some) (code, says, e) =
    let codes : codes_in r.body ≡ flat_map select_codes selects = ap codes_in is in
    let same : code ≡ code_of (flat_map select_codes selects) = e (subst (λ (xs : List ℕ). xs ≢ []) (sym codes) some) ∙ ap code_of codes in
    subst (IsHeardAs r) (sym says)
    (subst (λ (b : MsgBody). IsHeardAs (record r { body = b }) (said.Reply (stamp r.corr) code)) (sym is) (reply_by r.source r.dest r.corr r.flags selects code same))

pub same_heard : (o : Option Message) (x : Option said.Message) → IsShowing o → AreSame o x → AreHeardAs o x
same_heard None None shows same = tt
same_heard None (Some x) shows same = same
same_heard (Some r) None shows same = same
same_heard (Some r) (Some x) shows same = (reply_heard r x shows same, same, shows)

kept_shows : (o : Option Message) (x : Option said.Message) → AreHeardAs o x → IsShowing o
kept_shows None None same = tt
kept_shows None (Some x) same = tt
kept_shows (Some r) None same = absurd same
kept_shows (Some r) (Some x) (heard, same, shows) = shows

pub kept_same : (o : Option Message) (x : Option said.Message) → AreHeardAs o x → AreSame o x
kept_same None None same = tt
kept_same None (Some x) same = same
kept_same (Some r) None same = same
kept_same (Some r) (Some x) (heard, same, shows) = same

either_shows : (m : Message) (selects : List Select) (codes : List ℕ) (o kept : Option Message) → IsAnswerable selects → IsShowing kept → (o ≡ reply m selects codes) ⊎ (o ≡ kept) → IsShowing o
either_shows m selects codes o kept is shows (inl e) = subst IsShowing (sym e) (reply_shows m selects codes is)
either_shows m selects codes o kept is shows (inr e) = subst IsShowing (sym e) shows

pub answers_heard : (s : TransactionState) (before : Option said.Message) (peer : ℕ) (m : Message) (selects : List Select) (codes : List ℕ) → IsAnswerable selects → AreHeardAs s.kept before → Answers s before peer m selects codes
    → AnswersAreHeard s before peer m selects codes
answers_heard s before peer m selects codes is heard a =
    let shows = kept_shows s.kept before heard in
    record {
      kept = same_heard (configured s peer m selects).state.kept _ (either_shows m selects codes (configured s peer m selects).state.kept s.kept is shows a.keeps) a.kept;
      response = a.response;
      notices = a.notices;
      outs = a.outs;
      others = told_others s peer m a.notices a.told;
      says = λ has. same_heard a.response _ (either_shows m selects codes a.response s.kept is shows a.sends) (a.says has);
    }

pub goes_heard : (s : TransactionState) (before : Option said.Message) (peer : ℕ) (m : Message) (selects : List Select) → IsNamed s → IsAnswerable selects → AreHeardAs s.kept before
    → (codes : List ℕ) × Answers s before peer m selects codes × AnswersAreHeard s before peer m selects codes
goes_heard s before peer m selects named is heard =
    let (codes, a) = goes s before peer m selects named (kept_same s.kept before heard) in (codes, a, answers_heard s before peer m selects codes is heard a)
