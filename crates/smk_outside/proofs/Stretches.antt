-- Stretches of a conversation, one after the other.
use Rattle.std.proofs.{Common.{◌≡◌, ◌+◌, ℕ, List, [], ◌∷◌, ◌++◌, Option, Some, None, refl, sym, ap, ◌∙◌, subst, arith, append_assoc, append-nil, length, length-append}, lemmas.List.map-append, lemmas.List.Sums.fold-append}
use Rattle.smk_outside.specs.{declared.talk.event.Event.Event, declared.talk.event.Event.TheVariants.Heard, declared.talk.ending.Ending.Ending, declared.talk.ending.Ending.TheVariants.{Ended, Unheard, Unsaid, Outlasted}, Told.{Told, Adds, says}, Hearing.Hears, Saying.{Says, AreFront, SaysFront}, Conversing.{Rules, last_state, Talks, TakesBy, Stretch, Cause, Conversation}, Turning.{ReplyGives, WholeTurn, LastTurn, TurnGives}}
use Rattle.smk_outside.proofs.Telling.{Adds-trans, Takes-trans, TakesBy-trans, TakesBy-unheard, front_after}

module _ {S T : Type 0} (rules : Rules S T) (Fits : S → T → Type 0) where
  -- texts that are said first
  pub said_first : (state : S) (saying : List (List ℕ)) (ending : Ending) (turns : List T) (events : List Event)
      → Talks rules Fits state [] ending turns events → Talks rules Fits state saying ending turns (says saying ++ events)
  said_first state saying Ended [] events talks = ap (λ l. says saying ++ l) talks
  said_first state saying Unheard [] events talks = ap (λ l. says saying ++ l) talks ∙ append-nil (says saying)
  said_first state saying Unsaid [] events talks = subst (λ l. AreFront l (says saying ++ events)) (append-nil saying) (front_after saying [] events talks)
  said_first state saying Outlasted [] events talks = ap (λ l. says saying ++ l) talks ∙ append-nil (says saying)
  said_first state saying ending (turn ∷ turns) events (more, fits, is, talks) = (more, fits, ap (λ l. says saying ++ l) is, talks)

  -- a conversation goes on
  pub talks_on : (state : S) (saying : List (List ℕ)) (ending : Ending) (turns next : List T) (events more : List Event)
      → Talks rules Fits state saying Outlasted turns events → Talks rules Fits (last_state rules state turns) [] ending next more
      → Talks rules Fits state saying ending (turns ++ next) (events ++ more)
  talks_on state saying ending [] next events more before after =
      subst (λ l. Talks rules Fits state saying ending next (l ++ more)) (sym before) (said_first state saying ending next more after)
  talks_on state saying ending (turn ∷ turns) next events more (rest, fits, is, before) after = (
    rest ++ more,
    fits,
    ap (λ l. l ++ more) is ∙ append_assoc (says saying) (Heard (rules.line turn) ∷ rest) more,
    talks_on (rules.next state turn) (rules.texts state turn) ending turns next rest more before after,
  )

  -- two stretches, one after the other
  pub joined : (saying : List (List ℕ)) (first mid last : S) (before between after : Told) (ending : Ending)
      → Stretch rules Fits saying first mid before between Outlasted → Stretch rules Fits [] mid last between after ending → Stretch rules Fits saying first last before after ending
  joined saying first mid last before between after ending p q = record {
    turns = p.turns ++ q.turns;
    events = p.events ++ q.events;
    talks = talks_on first saying ending p.turns q.turns p.events q.events p.talks (subst (λ s. Talks rules Fits s [] ending q.turns q.events) p.state q.talks);
    state = q.state ∙ ap (λ s. last_state rules s q.turns) p.state ∙ sym (fold-append rules.next first p.turns q.turns);
    adds = Adds-trans before between after p.events q.events p.adds q.adds;
    takes = subst (TakesBy ending before after) (sym (map-append rules.line p.turns q.turns)) (TakesBy-trans ending before between after _ _ p.takes q.takes);
  }

  -- the opening is said
  pub opened : (saying : List (List ℕ)) (state : S) (before after : Told) → Says before after saying
      → (talk : Stretch rules Fits saying state state before after Outlasted) × (length talk.turns ≡ 0)
  opened saying state before after said = (record { turns = []; events = says saying; talks = refl; state = refl; adds = said.0; takes = said.1 }, refl)

  -- or breaks off
  pub broken : (saying : List (List ℕ)) (state : S) (before after : Told) → SaysFront before after saying → Stretch rules Fits saying state state before after Unsaid
  broken saying state before after (events, front, added, taken) =
      record { turns = []; events = events; talks = front; state = refl; adds = added; takes = taken }

  -- one turn more
  pub goes_on : (saying : List (List ℕ)) (first mid last : S) (before between after : Told) (count : ℕ)
      → (talk : Stretch rules Fits saying first mid before between Outlasted) → length talk.turns ≡ count → WholeTurn rules Fits mid last between after
      → (more : Stretch rules Fits saying first last before after Outlasted) × (length more.turns ≡ count + 1)
  unfolding joined
  goes_on saying first mid last before between after count talk is turn =
      (joined saying first mid last before between after Outlasted talk turn.talk, length-append talk.turns turn.talk.turns ∙ added _ _ _ _ is turn.one)
    where
      added : (a b c d : ℕ) → a ≡ b → c ≡ d → a + c ≡ b + d
      added a b c d p q = omega arith

  -- the last turn
  pub ends : (opening : List (List ℕ)) (first mid last : S) (before between after : Told) (rose_before rose : Type 0) (ending : Ending)
      → Stretch rules Fits opening first mid before between Outlasted → (rose_before → rose) → LastTurn rules Fits rose_before mid last between after ending
      → Conversation rules Fits opening first last before after rose ending
  ends opening first mid last before between after rose_before rose ending talk why turn =
      let whole = joined opening first mid last before between after ending talk turn.talk in
      record { talk = whole; cause = caused ending (length whole.turns) why (turn.cause (length whole.turns)) }
    where
      caused : (e : Ending) (count : ℕ) → (rose_before → rose) → Cause e rose_before count → Cause e rose count
      caused Ended count why cause = cause
      caused Unheard count why cause = why cause
      caused Unsaid count why cause = why cause
      caused Outlasted count why cause = cause

  -- no line is heard
  pub unheard : (rose : Type 0) (state : S) (before after : Told) → Adds before after [] → rose → LastTurn rules Fits rose state state before after Unheard
  unheard rose state before after added cause = record {
    talk = record { turns = []; events = []; talks = refl; state = refl; adds = added; takes = TakesBy-unheard before after };
    cause = λ _. cause;
  }

  -- a line that was heard is answered
  pub turned : (rose_before rose : Type 0) (first last : S) (before between after : Told) (turn : T) (texts : List (List ℕ)) (result : Option Ending)
      → Fits first turn → texts ≡ rules.texts first turn → last ≡ rules.next first turn
      → Hears before between (rules.line turn) → (rose_before → rose) → ReplyGives rose_before between after texts result → TurnGives rules Fits rose first last before after result
  turned rose_before rose first last before between after turn texts None fits is state heard why said = record {
    talk = record {
      turns = turn ∷ [];
      events = Heard (rules.line turn) ∷ says texts;
      talks = (says texts, fits, refl, ap says is);
      state = state;
      adds = Adds-trans before between after _ _ heard.0 said.0;
      takes = Takes-trans before between after _ _ heard.1 said.1;
    };
    one = refl;
  }
  turned rose_before rose first last before between after turn texts (Some Unsaid) fits is state heard why ((events, front, added, taken), cause) = record {
    talk = record {
      turns = turn ∷ [];
      events = Heard (rules.line turn) ∷ events;
      talks = (events, fits, refl, subst (λ l. AreFront l events) is front);
      state = state;
      adds = Adds-trans before between after _ _ heard.0 added;
      takes = Takes-trans before between after _ _ heard.1 taken;
    };
    cause = λ _. why cause;
  }
  turned rose_before rose first last before between after turn texts (Some Ended) fits is state heard why said = absurd said
  turned rose_before rose first last before between after turn texts (Some Unheard) fits is state heard why said = absurd said
  turned rose_before rose first last before between after turn texts (Some Outlasted) fits is state heard why said = absurd said

-- turns that fit in one way fit in any weaker way
pub talks_refit : {S T : Type 0} (rules : Rules S T) (Fits Weaker : S → T → Type 0) → ((state : S) (turn : T) → Fits state turn → Weaker state turn)
    → (state : S) (saying : List (List ℕ)) (ending : Ending) (turns : List T) (events : List Event)
    → Talks rules Fits state saying ending turns events → Talks rules Weaker state saying ending turns events
talks_refit rules Fits Weaker weaker state saying ending [] events talks = talks
talks_refit rules Fits Weaker weaker state saying ending (turn ∷ turns) events (more, fits, is, talks) =
    (more, weaker state turn fits, is, talks_refit rules Fits Weaker weaker (rules.next state turn) (rules.texts state turn) ending turns more talks)

pub refit : {S T : Type 0} (rules : Rules S T) (Fits Weaker : S → T → Type 0) → ((state : S) (turn : T) → Fits state turn → Weaker state turn)
    → (saying : List (List ℕ)) (first last : S) (before after : Told) (ending : Ending)
    → (talk : Stretch rules Fits saying first last before after ending) → (other : Stretch rules Weaker saying first last before after ending) × (other.turns ≡ talk.turns)
refit rules Fits Weaker weaker saying first last before after ending talk = (
  record {
    turns = talk.turns;
    events = talk.events;
    talks = talks_refit rules Fits Weaker weaker first saying ending talk.turns talk.events talk.talks;
    state = talk.state;
    adds = talk.adds;
    takes = talk.takes;
  },
  refl,
)
