-- Stretches of a conversation over a book, one after the other, with what they come to.
use Rattle.std.proofs.Common.{zero, suc, ◌≡◌, ◌≤◌, ◌+◌, ℕ, Bool, true, false, List, [], ◌∷◌, ◌++◌, Option, Some, None, Result, Ok, Err, refl, sym, ap, ◌∙◌, subst, arith, inl, inr, length, length-append}
use Rattle.std.specs.Prelude.{◌||◌, nat_lt}
use borrow.Author.Tests.{lt-ltb}
use Rattle.smk_base.specs.{declared.book.catalog.TableInfo.TableInfo, declared.fault.Fault.Fault}
use Rattle.smk_model.specs.{Conversation.{TalkTurn, Replied, Owned, Unbrought, ReadOnly, Forgone, OwnForgone, TooLong, TalkState, line_of, turn_after, turn_block, turn_told, turns_told, FitsTalk}, Outcome.{Held, appended_at, nothing_held}, Session.State, Reports.{BookSaid, LinesTold, nothing_told, followed_by}, TalkStarts.{BringsBy, FailedReads, misreads}, Values.Row}
use Rattle.smk_model.proofs.Misreads.{reads_within, misreads_joined, misread_once}
use Rattle.smk_outside.proofs.Stretches as stretches
use Rattle.smk_outside.specs.{declared.talk.event.Event.Event, declared.talk.event.Event.TheVariants.{Heard, End}, Hearing.Hears, Outside.Rose, Saying.{AreFront, Says, SaysFront}, Turning.ReplyGives, Conversing.{Cause, Talks, TakesBy, last_state}, Told.{Told as ToldBy, Adds, AreAll, says}, declared.talk.ending.Ending.Ending, declared.talk.ending.Ending.TheVariants.{Ended, Unheard, Unsaid, Outlasted}}
use Rattle.smk_outside.proofs.Telling.{Adds-trans, Takes-trans, TakesBy-trans, TakesBy-unheard}
use Rattle.std.proofs.{lemmas.List.map-append, lemmas.List.Sums.fold-append}
use Rattle.smk_inputs.proofs.Stops.{rose_within, untold_within}
use Rattle.smk_top.specs.Talking.{talk_rules, is_down, talk_at, AnswersLine, TalkStretch, TakesTurn, EndsTurn, TurnTaken, Talked}

-- what is told of turns, one part after the other: the sums
sums : (said : BookSaid) (state : TalkState) (a b : List TalkTurn)
    → ((turns_told said state (a ++ b)).refused ≡ (turns_told said state a).refused + (turns_told said (last_state (talk_rules said) state a) b).refused)
    × ((turns_told said state (a ++ b)).unread ≡ (turns_told said state a).unread + (turns_told said (last_state (talk_rules said) state a) b).unread)
    × ((turns_told said state (a ++ b)).looks ≡ (turns_told said state a).looks + (turns_told said (last_state (talk_rules said) state a) b).looks)
sums said state [] b = (omega arith, omega arith, omega arith)
sums said state (turn ∷ a) b =
    let (r, u, l) = sums said (turn_after said state turn) a b in
    (added _ _ _ _ r, added _ _ _ _ u, added _ _ _ _ l)
  where
    added : (x y z w : ℕ) → y ≡ z + w → x + y ≡ (x + z) + w
    added x y z w is = omega (arith, is)

-- a sum is above nought exactly where a part is
either : (a b : ℕ) → nat_lt 0 (a + b) ≡ (nat_lt 0 a || nat_lt 0 b)
either zero b = ap (λ n. nat_lt 0 n) (omega arith)
either (suc a) b =
    let whole : nat_lt 0 (suc a + b) ≡ true = lt-ltb _ _ (omega arith) in
    let part : nat_lt 0 (suc a) ≡ true = lt-ltb _ _ (omega arith) in
    rw whole (rw part refl)

sides : (a b c d : Bool) → ((a || b) || (c || d)) ≡ ((a || c) || (b || d))
sides true true true d = refl
sides true true false d = refl
sides true false true d = refl
sides true false false true = refl
sides true false false false = refl
sides false true true true = refl
sides false true true false = refl
sides false true false true = refl
sides false true false false = refl
sides false false true true = refl
sides false false true false = refl
sides false false false d = refl

-- a line of turns is turned down where one of either part is
down_either : (a b c : LinesTold) → c.refused ≡ a.refused + b.refused → c.unread ≡ a.unread + b.unread → is_down c ≡ (is_down a || is_down b)
down_either a b c r u =
    ap (λ n. nat_lt 0 n || nat_lt 0 c.unread) r ∙ ap (λ n. nat_lt 0 (a.refused + b.refused) || nat_lt 0 n) u
    ∙ ap (λ t. t || nat_lt 0 (a.unread + b.unread)) (either a.refused b.refused)
    ∙ ap (λ t. (nat_lt 0 a.refused || nat_lt 0 b.refused) || t) (either a.unread b.unread)
    ∙ sides (nat_lt 0 a.refused) (nat_lt 0 b.refused) (nat_lt 0 a.unread) (nat_lt 0 b.unread)

-- what one turn comes to
one_down : (told : LinesTold) → is_down told ≡ is_down (followed_by told nothing_told)
one_down told =
    let r : told.refused ≡ told.refused + 0 = omega arith in
    let u : told.unread ≡ told.unread + 0 = omega arith in
    ap (λ n. nat_lt 0 n || nat_lt 0 told.unread) r ∙ ap (λ n. nat_lt 0 (told.refused + 0) || nat_lt 0 n) u

one_looks : (told : LinesTold) (before after : ℕ) → after ≤ before + told.looks → after ≤ before + (followed_by told nothing_told).looks
one_looks told before after few = omega (arith, few)

-- what came of a file in a part came of it in the whole
brings_more : (rose_here rose : Type 0) → (rose_here → rose) → (held : Option Held) (table : Option TableInfo) (brought : Result (List Row) Fault) → BringsBy held rose_here table brought → BringsBy held rose table brought
brings_more rose_here rose wide None None brought is = is
brings_more rose_here rose wide None (Some table) (Ok rows) is = tt
brings_more rose_here rose wide None (Some table) (Err fault) is = untold_within rose_here rose fault wide is
brings_more rose_here rose wide (Some held) table brought (inl is) = inl is
brings_more rose_here rose wide (Some held) table brought (inr (up, unread)) = inr (wide up, unread)

-- one read at least failed where the count rose
rose_shows : (before after : ℕ) → Rose before after → FailedReads 1 before after
rose_shows before after (inl less) = inl (omega (arith, less))
rose_shows before after (inr last) = inr (omega (arith, last))

module _ (said : BookSaid) (read_only : Bool) (held : Option Held) where
  -- turns fit by whatever more may come of files
  pub fits_by : (Here More : Option TableInfo → Result (List Row) Fault → Type 0) → ((table : Option TableInfo) (brought : Result (List Row) Fault) → Here table brought → More table brought)
      → (state : TalkState) (turn : TalkTurn) → FitsTalk read_only said.catalog Here state turn → FitsTalk read_only said.catalog More state turn
  fits_by Here More wide state (Replied heard) (short, plain, reads, allowed, brought) = (short, plain, reads, allowed, wide (appended_at said.catalog heard.reading) (Ok heard.rows) brought)
  fits_by Here More wide state (Owned heard) is = is
  fits_by Here More wide state (Unbrought bytes fault) (short, un, allowed) =
      (short, record { reading = un.reading; table = un.table; reads = un.reads; appends = un.appends; brings = wide (Some un.table) (Err fault) un.brings }, allowed)
  fits_by Here More wide state (ReadOnly bytes) is = is
  fits_by Here More wide state (Forgone heard) (plain, reads, inl none) = (plain, reads, inl none)
  fits_by Here More wide state (Forgone heard) (plain, reads, inr brought) = (plain, reads, inr (wide (appended_at said.catalog heard.reading) (Ok heard.rows) brought))
  fits_by Here More wide state (OwnForgone heard) is = is
  fits_by Here More wide state (TooLong bytes) is = is

  -- turns of a part fit in the whole
  within : (start before after end : ℕ) → start ≤ before → before ≤ after → after ≤ end → (saying : List (List ℕ)) (first : TalkState) (ending : Ending) (turns : List TalkTurn) (events : List Event)
      → Talks (talk_rules said) (FitsTalk read_only said.catalog (BringsBy held (Rose before after))) first saying ending turns events
      → Talks (talk_rules said) (FitsTalk read_only said.catalog (BringsBy held (Rose start end))) first saying ending turns events
  within start before after end s m e saying first ending turns events talks =
      stretches.talks_refit (talk_rules said) _ _ (fits_by (BringsBy held (Rose before after)) (BringsBy held (Rose start end)) (brings_more _ _ (rose_within start before after end s m e) held)) first saying ending turns events talks

  -- two stretches, one after the other
  pub stretches_joined : (faults faults_between faults_after : ℕ) (saying : List (List ℕ)) (first mid last : TalkState) (before between after : ToldBy) (ending : Ending) (down more : Bool) (looks_before looks_between looks_after : ℕ) → faults ≤ faults_between → faults_between ≤ faults_after
      → (p : TalkStretch said read_only held faults faults_between saying first mid before between Outlasted down looks_before looks_between)
      → (q : TalkStretch said read_only held faults_between faults_after [] mid last between after ending more looks_between looks_after)
      → (whole : TalkStretch said read_only held faults faults_after saying first last before after ending (down || more) looks_before looks_after) × (whole.talk.turns ≡ p.talk.turns ++ q.talk.turns)
  stretches_joined faults faults_between faults_after saying first mid last before between after ending down more looks_before looks_between looks_after up later p q =
      let s = sums said first p.talk.turns q.talk.turns in
      let at = subst (λ m. is_down (turns_told said m q.talk.turns) ≡ is_down (turns_told said (last_state (talk_rules said) first p.talk.turns) q.talk.turns)) (sym p.talk.state) refl in
      let looks : looks_after ≤ looks_between + (turns_told said (last_state (talk_rules said) first p.talk.turns) q.talk.turns).looks = subst (λ m. looks_after ≤ looks_between + (turns_told said m q.talk.turns).looks) p.talk.state q.looks in (
        record {
          talk = record {
            turns = p.talk.turns ++ q.talk.turns;
            events = p.talk.events ++ q.talk.events;
            talks = stretches.talks_on (talk_rules said) (FitsTalk read_only said.catalog (BringsBy held (Rose faults faults_after))) first saying ending p.talk.turns q.talk.turns p.talk.events q.talk.events
                (within faults faults faults_between faults_after (omega arith) up later saying first Outlasted p.talk.turns p.talk.events p.talk.talks)
                (subst (λ s. Talks (talk_rules said) (FitsTalk read_only said.catalog (BringsBy held (Rose faults faults_after))) s [] ending q.talk.turns q.talk.events) p.talk.state
                (within faults faults_between faults_after faults_after up later (omega arith) [] mid ending q.talk.turns q.talk.events q.talk.talks));
            state = q.talk.state ∙ ap (λ s. last_state (talk_rules said) s q.talk.turns) p.talk.state ∙ sym (fold-append (turn_after said) first p.talk.turns q.talk.turns);
            adds = Adds-trans before between after p.talk.events q.talk.events p.talk.adds q.talk.adds;
            takes = subst (TakesBy ending before after) (sym (map-append line_of p.talk.turns q.talk.turns)) (TakesBy-trans ending before between after _ _ p.talk.takes q.talk.takes);
          };
          misread = misreads_joined held p.talk.turns q.talk.turns faults faults_between faults_after p.misread q.misread;
          turned = ap (λ d. d || more) p.turned ∙ ap (λ d. is_down (turns_told said first p.talk.turns) || d) (q.turned ∙ at)
              ∙ sym (down_either (turns_told said first p.talk.turns) (turns_told said (last_state (talk_rules said) first p.talk.turns) q.talk.turns) (turns_told said first (p.talk.turns ++ q.talk.turns)) s.0 s.1);
          looks = few _ _ _ _ _ _ p.looks looks s.2;
        },
        refl,
      )
    where
      few : (a b c x y z : ℕ) → b ≤ a + x → c ≤ b + y → z ≡ x + y → c ≤ a + z
      few a b c x y z p q s = omega (arith, p, q, s)

  -- a line that was heard is answered
  pub turn_taken : (faults faults_after : ℕ) (talk_before talk_rose : Type 0) (first : TalkState) (bytes : List ℕ) (after_state : State) (text : List ℕ) (down : Bool) (looks_before looks_after : ℕ) (before between after : ToldBy) (result : Option Ending) → faults ≤ faults_after
      → AnswersLine said read_only held (Rose faults faults_after) first bytes after_state text down looks_before looks_after
      → Hears before between bytes → (talk_before → talk_rose) → ReplyGives talk_before between after (text ∷ (10 ∷ []) ∷ []) result
      → TurnTaken said read_only held faults faults_after talk_rose first (talk_at after_state (first.heard + 1)) before after result down looks_before looks_after
  turn_taken faults faults_after talk_before talk_rose first bytes after_state text down looks_before looks_after before between after None later a heard why given = record {
    stretch = record {
      talk = record {
        turns = a.turn ∷ [];
        events = Heard (line_of a.turn) ∷ says (text ∷ (10 ∷ []) ∷ []);
        talks = (says (text ∷ (10 ∷ []) ∷ []), a.fits, refl, ap (λ t. says (t ∷ (10 ∷ []) ∷ [])) a.is);
        state = ap (λ s. talk_at s (first.heard + 1)) a.session;
        adds = Adds-trans before between after _ _ (subst (Hears before between) (sym a.line) heard).0 given.0;
        takes = Takes-trans before between after _ _ (subst (Hears before between) (sym a.line) heard).1 given.1;
      };
      misread = misread_once read_only said.catalog held (Rose faults faults_after) faults faults_after later (rose_shows faults faults_after) first a.turn a.fits;
      turned = a.turned ∙ one_down (turn_told said first a.turn);
      looks = one_looks (turn_told said first a.turn) looks_before looks_after a.looks;
    };
    one = refl;
  }
  turn_taken faults faults_after talk_before talk_rose first bytes after_state text down looks_before looks_after before between after (Some Unsaid) later a heard why ((events, front, added, taken), cause) = record {
    last = talk_at after_state (first.heard + 1);
    stretch = record {
      talk = record {
        turns = a.turn ∷ [];
        events = Heard (line_of a.turn) ∷ events;
        talks = (events, a.fits, refl, subst (λ t. AreFront (t ∷ (10 ∷ []) ∷ []) events) a.is front);
        state = ap (λ s. talk_at s (first.heard + 1)) a.session;
        adds = Adds-trans before between after _ _ (subst (Hears before between) (sym a.line) heard).0 added;
        takes = Takes-trans before between after _ _ (subst (Hears before between) (sym a.line) heard).1 taken;
      };
      misread = misread_once read_only said.catalog held (Rose faults faults_after) faults faults_after later (rose_shows faults faults_after) first a.turn a.fits;
      turned = a.turned ∙ one_down (turn_told said first a.turn);
      looks = one_looks (turn_told said first a.turn) looks_before looks_after a.looks;
    };
    cause = λ _. why cause;
  }
  turn_taken faults faults_after talk_before talk_rose first bytes after_state text down looks_before looks_after before between after (Some Ended) later a heard why given = absurd given
  turn_taken faults faults_after talk_before talk_rose first bytes after_state text down looks_before looks_after before between after (Some Unheard) later a heard why given = absurd given
  turn_taken faults faults_after talk_before talk_rose first bytes after_state text down looks_before looks_after before between after (Some Outlasted) later a heard why given = absurd given

  -- no line comes any more, or none can be heard
  pub no_line : (faults : ℕ) (talk_rose : Type 0) (first : TalkState) (before after : ToldBy) (looks_before looks_after : ℕ) → Adds before after (End ∷ []) → AreAll before [] → looks_after ≡ looks_before
      → EndsTurn said read_only held faults faults talk_rose first before after Ended false looks_before looks_after
  no_line faults talk_rose first before after looks_before looks_after added all none = record {
    last = first;
    stretch = record { talk = record { turns = []; events = End ∷ []; talks = refl; state = refl; adds = added; takes = all }; misread = inl (omega arith); turned = refl; looks = omega (arith, none) };
    cause = λ _. tt;
  }

  pub no_hearing : (faults : ℕ) (talk_rose : Type 0) (first : TalkState) (before after : ToldBy) (looks_before looks_after : ℕ) → Adds before after [] → talk_rose → looks_after ≡ looks_before
      → EndsTurn said read_only held faults faults talk_rose first before after Unheard false looks_before looks_after
  no_hearing faults talk_rose first before after looks_before looks_after added cause none = record {
    last = first;
    stretch = record { talk = record { turns = []; events = []; talks = refl; state = refl; adds = added; takes = TakesBy-unheard before after }; misread = inl (omega arith); turned = refl; looks = omega (arith, none) };
    cause = λ _. cause;
  }

  -- what is said first is said, or breaks off
  pub begins : (faults : ℕ) (saying : List (List ℕ)) (first : TalkState) (before after : ToldBy) (looks : ℕ) → Says before after saying
      → (stretch : TalkStretch said read_only held faults faults saying first first before after Outlasted false looks looks) × (length stretch.talk.turns ≡ 0)
  begins faults saying first before after looks given = (
    record { talk = record { turns = []; events = says saying; talks = refl; state = refl; adds = given.0; takes = given.1 }; misread = inl (omega arith); turned = refl; looks = omega arith },
    refl,
  )

  pub breaks_off : (faults : ℕ) (talk_rose : Type 0) (saying : List (List ℕ)) (first : TalkState) (before after : ToldBy) (looks : ℕ) → SaysFront before after saying → talk_rose
      → Talked said read_only held faults faults talk_rose saying first before after Unsaid false looks looks
  breaks_off faults talk_rose saying first before after looks (events, front, added, taken) cause = record {
    last = first;
    stretch = record { talk = record { turns = []; events = events; talks = front; state = refl; adds = added; takes = taken }; misread = inl (omega arith); turned = refl; looks = omega arith };
    cause = cause;
  }

  -- one turn more
  pub one_more : (faults faults_between faults_after : ℕ) (saying : List (List ℕ)) (first mid last : TalkState) (before between after : ToldBy) (down more : Bool) (looks_before looks_between looks_after count : ℕ) → faults ≤ faults_between → faults_between ≤ faults_after
      → (p : TalkStretch said read_only held faults faults_between saying first mid before between Outlasted down looks_before looks_between) → length p.talk.turns ≡ count
      → TakesTurn said read_only held faults_between faults_after mid last between after more looks_between looks_after
      → (whole : TalkStretch said read_only held faults faults_after saying first last before after Outlasted (down || more) looks_before looks_after) × (length whole.talk.turns ≡ count + 1)
  one_more faults faults_between faults_after saying first mid last before between after down more looks_before looks_between looks_after count up later p long turn =
      let (whole, is) = stretches_joined faults faults_between faults_after saying first mid last before between after Outlasted down more looks_before looks_between looks_after up later p turn.stretch in
      (whole, ap length is ∙ length-append p.talk.turns turn.stretch.talk.turns ∙ added _ _ _ _ long turn.one)
    where
      added : (a b c d : ℕ) → a ≡ b → c ≡ d → a + c ≡ b + d
      added a b c d p q = omega (arith, p, q)

  -- the last turn
  pub last_one : (faults faults_between faults_after : ℕ) (talk_here talk_rose : Type 0) (saying : List (List ℕ)) (first mid : TalkState) (before between after : ToldBy) (ending : Ending) (down more : Bool) (looks_before looks_between looks_after : ℕ) → faults ≤ faults_between → faults_between ≤ faults_after → (talk_here → talk_rose)
      → TalkStretch said read_only held faults faults_between saying first mid before between Outlasted down looks_before looks_between
      → EndsTurn said read_only held faults_between faults_after talk_here mid between after ending more looks_between looks_after
      → Talked said read_only held faults faults_after talk_rose saying first before after ending (down || more) looks_before looks_after
  last_one faults faults_between faults_after talk_here talk_rose saying first mid before between after ending down more looks_before looks_between looks_after up later why p turn =
      let (whole, is) = stretches_joined faults faults_between faults_after saying first mid turn.last before between after ending down more looks_before looks_between looks_after up later p turn.stretch in
      record { last = turn.last; stretch = whole; cause = caused ending (length whole.talk.turns) (turn.cause (length whole.talk.turns)) }
    where
      caused : (e : Ending) (count : ℕ) → Cause e talk_here count → Cause e talk_rose count
      caused Ended count cause = cause
      caused Unheard count cause = why cause
      caused Unsaid count cause = why cause
      caused Outlasted count cause = cause

  -- what is said first, and then a conversation
  pub begun_talk : (faults faults_after : ℕ) (talk_here talk_rose : Type 0) (saying : List (List ℕ)) (first : TalkState) (before between after : ToldBy) (ending : Ending) (down : Bool) (looks_before looks_after : ℕ) → faults ≤ faults_after → (talk_here → talk_rose) → Says before between saying
      → Talked said read_only held faults faults_after talk_here [] first between after ending down looks_before looks_after → Talked said read_only held faults faults_after talk_rose saying first before after ending down looks_before looks_after
  begun_talk faults faults_after talk_here talk_rose saying first before between after ending down looks_before looks_after later why given t =
      let (opening, none) = begins faults saying first before between looks_before given in
      let (whole, is) = stretches_joined faults faults faults_after saying first first t.last before between after ending false down looks_before looks_before looks_after (omega arith) later opening t.stretch in
      record { last = t.last; stretch = whole; cause = caused ending (length whole.talk.turns) (length t.stretch.talk.turns) (ap length is ∙ length-append opening.talk.turns t.stretch.talk.turns ∙ behind _ _ none) t.cause }
    where
      behind : (a b : ℕ) → a ≡ 0 → a + b ≡ b
      behind a b none = omega (arith, none)

      caused : (e : Ending) (whole count : ℕ) → whole ≡ count → Cause e talk_here count → Cause e talk_rose whole
      caused Ended whole count same cause = cause
      caused Unheard whole count same cause = why cause
      caused Unsaid whole count same cause = why cause
      caused Outlasted whole count same cause = same ∙ cause

  -- a conversation, as part of a longer time
  pub talked_within : (start faults faults_after : ℕ) (talk_rose : Type 0) (saying : List (List ℕ)) (first : TalkState) (before after : ToldBy) (ending : Ending) (down : Bool) (looks_first looks_before looks_after : ℕ) (more : ℕ) → start ≤ faults → faults ≤ faults_after → looks_before ≤ looks_first + more
      → Talked said read_only held faults faults_after talk_rose saying first before after ending down looks_before looks_after → Talked said read_only held start faults_after talk_rose saying first before after ending down (looks_first + more) looks_after
  talked_within start faults faults_after talk_rose saying first before after ending down looks_first looks_before looks_after more up later few t =
      let talk = t.stretch.talk in record {
        last = t.last;
        stretch = record {
          talk = record {
            turns = talk.turns;
            events = talk.events;
            talks = within start faults faults_after faults_after up later (omega arith) saying first ending talk.turns talk.events talk.talks;
            state = talk.state;
            adds = talk.adds;
            takes = talk.takes;
          };
          misread = reads_within (misreads held talk.turns) start faults faults_after faults_after up (omega arith) t.stretch.misread;
          turned = t.stretch.turned;
          looks = less _ _ _ _ few t.stretch.looks;
        };
        cause = t.cause;
      }
    where
      less : (a b c x : ℕ) → b ≤ a → c ≤ b + x → c ≤ a + x
      less a b c x p q = omega (arith, p, q)

-- lines that read no file, where nothing may be appended: files that hold nothing say the same of them as any others
module _ (said : BookSaid) (held : Option Held) where
  brings_nothing : (h : Option Held) (rose : Type 0) (table : Option TableInfo) (rows : List Row) → BringsBy (Some nothing_held) (Rose 0 0) table (Ok rows) → BringsBy h rose table (Ok rows)
  brings_nothing None rose None rows (inl is) = is
  brings_nothing (Some h) rose None rows (inl is) = inl is
  brings_nothing h rose None rows (inr (up, unread)) = absurd unread
  brings_nothing h rose (Some table) rows (inl is) = absurd (cc)
  brings_nothing h rose (Some table) rows (inr (up, unread)) = absurd (cc)

  fits_unread : (rose : Type 0) (state : TalkState) (turn : TalkTurn) → FitsTalk true said.catalog (BringsBy (Some nothing_held) (Rose 0 0)) state turn → FitsTalk true said.catalog (BringsBy held rose) state turn
  fits_unread rose state (Replied heard) (short, plain, reads, allowed, brought) = (short, plain, reads, allowed, brings_nothing held rose (appended_at said.catalog heard.reading) heard.rows brought)
  fits_unread rose state (Owned heard) is = is
  fits_unread rose state (Unbrought bytes fault) (short, un, allowed) = absurd (cc)
  fits_unread rose state (ReadOnly bytes) is = is
  fits_unread rose state (Forgone heard) (plain, reads, inl none) = (plain, reads, inl none)
  fits_unread rose state (Forgone heard) (plain, reads, inr brought) = (plain, reads, inr (brings_nothing held rose (appended_at said.catalog heard.reading) heard.rows brought))
  fits_unread rose state (OwnForgone heard) is = is
  fits_unread rose state (TooLong bytes) is = is

  none_misread : (Brings : Option TableInfo → Result (List Row) Fault → Type 0) (state : TalkState) (saying : List (List ℕ)) (ending : Ending) (turns : List TalkTurn) (events : List Event)
      → Talks (talk_rules said) (FitsTalk true said.catalog Brings) state saying ending turns events → misreads held turns ≡ 0
  none_misread Brings state saying ending [] events talks = refl
  none_misread Brings state saying ending (Unbrought bytes fault ∷ turns) events (more, fits, is, talks) = absurd (refused fits.2)
    where
      refused : true ≡ false → ⊥
      refused is = absurd (cc)
  none_misread Brings state saying ending (turn ∷ turns) events (more, fits, is, talks) = none_misread Brings (turn_after said state turn) (turn_block said state turn) ending turns more talks

  pub talked_unread : (read_only : Bool) (faults : ℕ) (talk_rose : Type 0) (saying : List (List ℕ)) (first : TalkState) (before after : ToldBy) (ending : Ending) (down : Bool) (looks_before looks_after : ℕ) → read_only ≡ true
      → Talked said read_only (Some nothing_held) 0 0 talk_rose saying first before after ending down looks_before looks_after → Talked said read_only held faults faults talk_rose saying first before after ending down looks_before looks_after
  talked_unread true faults talk_rose saying first before after ending down looks_before looks_after only t =
      let talk = t.stretch.talk in
      let none = none_misread (BringsBy (Some nothing_held) (Rose 0 0)) first saying ending talk.turns talk.events talk.talks in record {
        last = t.last;
        stretch = record {
          talk = record {
            turns = talk.turns;
            events = talk.events;
            talks = stretches.talks_refit (talk_rules said) (FitsTalk true said.catalog (BringsBy (Some nothing_held) (Rose 0 0))) (FitsTalk true said.catalog (BringsBy held (Rose faults faults))) (fits_unread (Rose faults faults)) first saying ending talk.turns talk.events talk.talks;
            state = talk.state;
            adds = talk.adds;
            takes = talk.takes;
          };
          misread = rw none (inl (omega arith));
          turned = t.stretch.turned;
          looks = t.stretch.looks;
        };
        cause = t.cause;
      }
  talked_unread false faults talk_rose saying first before after ending down looks_before looks_after only t = absurd (cc)
