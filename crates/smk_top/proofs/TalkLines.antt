-- What a line of a conversation is answered, as one of the turns that may be.
use Rattle.std.proofs.Common.{◌≡◌, ◌≤◌, ◌<◌, ◌+◌, ℕ, Bool, true, false, List, [], ◌∷◌, ◌++◌, Option, Some, None, Result, Ok, Err, refl, sym, ap, ◌∙◌, arith, inl, inr, length}
use Rattle.std.specs.{Prelude.{◌⊎◌, ◌&&◌, ◌||◌, cond, nat_lt, is_some}, Option.option_to_list}
use Rattle.smk_base.specs.{CatalogImage.CatalogImage, Rels.Relation, declared.book.catalog.TableInfo.TableInfo, declared.fault.Fault.Fault, Trees.{AppendedLine, PlainLine, AskedLine, ProfiledLine}}
use Rattle.smk_model.specs.{Catalogs.each_table_kinds, Conversation.{TalkState, Replied, Owned, Unbrought, ReadOnly, Forgone, OwnForgone, TooLong, asks_append, line_limit, text_read, unbrought_text, read_only_text, forgone_text, too_long_text}, Names.◌>>=◌, Outcome.{Held, appended_at, load}, OwnAnswers.{own_told, own_after}, OwnLines.{OwnReading, IsOwnReading, is_own}, Readings.{Reading, Asks, Unread, IsReading, Nothing}, Reports.{BookSaid, line_told, state_after, next_rows}, Selection.{each_kinds, each_rows}, Session.State, TalkStarts.BringsBy, Values.Row}
use Rattle.smk_base.specs.declared.fault.Fault.TheVariants as faults
use Rattle.smk_model.proofs.{OwnReadings.own_lines_are_read, SomeOutcome.some_line}
use Rattle.smk_inputs.specs.{Collecting.{Loads, unread_among}, declared.stop.Stop.TheVariants.At}
use Rattle.smk_top.specs.Talking.{is_down, AnswersLine}

-- the rows of the table that a line brings, if it brings one
abbrev pub rows_brought : Option Relation → List (List Row)
rows_brought brought = each_rows (option_to_list brought)

-- the rows of a line's file, if it appends one
pub brought_rows : (held : Option Held) (rose : Type 0) (asked : Option TableInfo) (brought : Option Relation) → each_kinds (option_to_list brought) ≡ each_table_kinds (option_to_list asked)
    → Loads held rose (option_to_list asked) rows_brought (Ok brought) → BringsBy held rose asked (Ok (next_rows (each_rows (option_to_list brought))))
brought_rows None rose None None kinds is = refl
brought_rows (Some held) rose None None kinds is = inl refl
brought_rows held rose None (Some table) kinds is = absurd (cc)
brought_rows None rose (Some info) brought kinds is = tt
brought_rows (Some held) rose (Some info) None kinds is = absurd (cc)
brought_rows (Some held) rose (Some info) (Some table) kinds is = inl (loaded (load held info) is)
  where
    loaded : (one : Result (List Row) Fault) → ◌>>=◌ one (λ rows. Ok (rows ∷ [])) ≡ Ok (table.rows ∷ []) → one ≡ Ok table.rows
    loaded (Ok rows) is = cc
    loaded (Err fault) is = absurd (cc)

-- a fault of a line's file
pub unbrought_rows : (held : Option Held) (rose : Type 0) (info : TableInfo) (fault : Fault) → Loads {X = Option Relation} held rose (info ∷ []) rows_brought (Err (At fault)) → BringsBy held rose (Some info) (Err fault)
unbrought_rows None rose info fault is = is
unbrought_rows (Some held) rose info fault (inl is) = inl (failed (load held info) is)
  where
    failed : (one : Result (List Row) Fault) → ◌>>=◌ one (λ rows. Ok (rows ∷ [])) ≡ Err fault → one ≡ Err fault
    failed (Ok rows) is = absurd (cc)
    failed (Err other) is = cc
unbrought_rows (Some held) rose info fault (inr (up, unread_among before table behind is loaded named)) = inr (up, ap Err (named ∙ ap (λ (t : TableInfo). faults.Unread t.file) (alone before is)))
  where
    alone : (before : List TableInfo) → info ∷ [] ≡ before ++ table ∷ behind → table ≡ info
    alone [] is = cc
    alone (other ∷ before) is = absurd (longer before is)
      where
        longer : (before : List TableInfo) → info ∷ [] ≡ other ∷ (before ++ table ∷ behind) → ⊥
        longer [] is = cc
        longer (next ∷ before) is = cc

-- a line that appends to a table asks for rows to be appended
asked_of : (catalog : CatalogImage) (reading : Reading) (info : TableInfo) → appended_at catalog reading ≡ Some info → asks_append reading ≡ true
asked_of catalog Nothing info at = absurd (cc)
asked_of catalog (Unread place) info at = absurd (cc)
asked_of catalog (Asks (PlainLine asked)) info at = absurd (cc)
asked_of catalog (Asks (AskedLine asked)) info at = absurd (cc)
asked_of catalog (Asks (ProfiledLine view)) info at = absurd (cc)
asked_of catalog (Asks (AppendedLine table file)) info at = refl

-- a line that is answered is turned down where it is refused
pub refused_down : (b : Bool) → b ≡ (nat_lt 0 (cond b 1 0) || nat_lt 0 0)
refused_down true = refl
refused_down false = refl

module _ (said : BookSaid) (read_only : Bool) (held : Option Held) (rose : Type 0) (state : TalkState) (bytes : List ℕ) where
  -- a line that is answered
  pub replied : (reading : Reading) (rows : List Row) (after : State) (text : List ℕ) (down : Bool) (looks_before looks_after : ℕ)
      → length bytes ≤ line_limit → is_own (text_read state.heard bytes) ≡ false → IsReading (text_read state.heard bytes) reading → (read_only && asks_append reading) ≡ false → BringsBy held rose (appended_at said.catalog reading) (Ok rows)
      → after ≡ state_after said state.session rows reading → text ≡ (line_told said state.session (state.heard + 1) rows reading).text → down ≡ is_down (line_told said state.session (state.heard + 1) rows reading)
      → looks_after ≤ looks_before + (line_told said state.session (state.heard + 1) rows reading).looks
      → AnswersLine said read_only held rose state bytes after text down looks_before looks_after
  replied reading rows after text down looks_before looks_after short plain reads may brought is told turned looks = record {
    turn = Replied (record { bytes = bytes; reading = reading; rows = rows });
    line = refl;
    fits = (short, plain, reads, may, brought);
    session = is;
    is = told;
    turned = turned;
    looks = looks;
  }

  -- a line that memory ran out for
  pub forgone : (reading : Reading) (rows : List Row) (after : State) (text : List ℕ) (down : Bool) (looks_before looks_after : ℕ)
      → is_own (text_read state.heard bytes) ≡ false → IsReading (text_read state.heard bytes) reading → ((rows ≡ []) ⊎ BringsBy held rose (appended_at said.catalog reading) (Ok rows))
      → after ≡ state.session → text ≡ forgone_text → down ≡ true → looks_after ≤ looks_before + (line_told said state.session (state.heard + 1) rows reading).looks
      → AnswersLine said read_only held rose state bytes after text down looks_before looks_after
  forgone reading rows after text down looks_before looks_after plain reads brought is told turned looks = record {
    turn = Forgone (record { bytes = bytes; reading = reading; rows = rows });
    line = refl;
    fits = (plain, reads, brought);
    session = is;
    is = told;
    turned = turned;
    looks = looks;
  }

  -- an own line that is answered, and one that memory ran out for
  pub owned : (own : OwnReading) (after : State) (text : List ℕ) (down : Bool) (looks_before looks_after : ℕ)
      → length bytes ≤ line_limit → is_own (text_read state.heard bytes) ≡ true → IsOwnReading (text_read state.heard bytes) own
      → after ≡ own_after said state.session own → text ≡ (own_told said state.session (state.heard + 1) own).text → down ≡ is_down (own_told said state.session (state.heard + 1) own)
      → looks_after ≤ looks_before + (own_told said state.session (state.heard + 1) own).looks
      → AnswersLine said read_only held rose state bytes after text down looks_before looks_after
  owned own after text down looks_before looks_after short dotted reads is told turned looks = record {
    turn = Owned (record { bytes = bytes; own = own });
    line = refl;
    fits = (short, dotted, reads);
    session = is;
    is = told;
    turned = turned;
    looks = looks;
  }

  pub own_forgone : (own : OwnReading) (after : State) (text : List ℕ) (down : Bool) (looks_before looks_after : ℕ)
      → is_own (text_read state.heard bytes) ≡ true → IsOwnReading (text_read state.heard bytes) own
      → after ≡ state.session → text ≡ forgone_text → down ≡ true → looks_after ≤ looks_before + (own_told said state.session (state.heard + 1) own).looks
      → AnswersLine said read_only held rose state bytes after text down looks_before looks_after
  own_forgone own after text down looks_before looks_after dotted reads is told turned looks = record {
    turn = OwnForgone (record { bytes = bytes; own = own });
    line = refl;
    fits = (dotted, reads);
    session = is;
    is = told;
    turned = turned;
    looks = looks;
  }

  -- a line that memory ran out for before any look was made, whatever it says
  pub forgone_before : (after : State) (text : List ℕ) (down : Bool) (looks_before looks_after : ℕ)
      → after ≡ state.session → text ≡ forgone_text → down ≡ true → looks_after ≡ looks_before
      → AnswersLine said read_only held rose state bytes after text down looks_before looks_after
  forgone_before after text down looks_before looks_after is told turned looks = by (is_own (text_read state.heard bytes)) refl
    where
      by : (own : Bool) → is_own (text_read state.heard bytes) ≡ own → AnswersLine said read_only held rose state bytes after text down looks_before looks_after
      by false plain = let line = some_line (text_read state.heard bytes) in forgone line.0 [] after text down looks_before looks_after plain line.1 (inl refl) is told turned (omega (arith, looks))
      by true dotted = let line = own_lines_are_read.some (text_read state.heard bytes) in own_forgone line.0 after text down looks_before looks_after dotted line.1 is told turned (omega (arith, looks))

  -- a line whose file has a fault
  pub unbrought : (reading : Reading) (fault : Fault) (after : State) (text : List ℕ) (down : Bool) (looks_before looks_after : ℕ)
      → length bytes ≤ line_limit → IsReading (text_read state.heard bytes) reading → (read_only && asks_append reading) ≡ false → is_some (appended_at said.catalog reading) ≡ true
      → Loads {X = Option Relation} held rose (option_to_list (appended_at said.catalog reading)) rows_brought (Err (At fault))
      → after ≡ state.session → text ≡ unbrought_text fault → down ≡ true → looks_after ≡ looks_before
      → AnswersLine said read_only held rose state bytes after text down looks_before looks_after
  unbrought reading fault after text down looks_before looks_after short reads may some loads is told turned looks = by (appended_at said.catalog reading) refl some loads
    where
      by : (asked : Option TableInfo) → appended_at said.catalog reading ≡ asked → is_some asked ≡ true → Loads {X = Option Relation} held rose (option_to_list asked) rows_brought (Err (At fault))
          → AnswersLine said read_only held rose state bytes after text down looks_before looks_after
      by None at some loads = absurd (cc)
      by (Some info) at some loads = record {
        turn = Unbrought bytes fault;
        line = refl;
        fits = (short, record { reading = reading; table = info; reads = reads; appends = at; brings = unbrought_rows held rose info fault loads }, writable read_only (asks_append reading) may (asked_of said.catalog reading info at));
        session = is;
        is = told;
        turned = turned;
        looks = omega (arith, looks);
      }
        where
          writable : (r a : Bool) → (r && a) ≡ false → a ≡ true → r ≡ false
          writable true a may is = sym is ∙ may
          writable false a may is = refl

  -- an append where nothing may be appended
  pub refused : (reading : Reading) (after : State) (text : List ℕ) (down : Bool) (looks_before looks_after : ℕ)
      → length bytes ≤ line_limit → IsReading (text_read state.heard bytes) reading → read_only ≡ true → asks_append reading ≡ true
      → after ≡ state.session → text ≡ read_only_text → down ≡ true → looks_after ≡ looks_before
      → AnswersLine said read_only held rose state bytes after text down looks_before looks_after
  refused reading after text down looks_before looks_after short reads only asks is told turned looks = record {
    turn = ReadOnly bytes;
    line = refl;
    fits = (short, record { reading = reading; reads = reads; appends = asks }, only);
    session = is;
    is = told;
    turned = turned;
    looks = omega (arith, looks);
  }

  -- a line that is too long
  pub too_long : (after : State) (text : List ℕ) (down : Bool) (looks_before looks_after : ℕ)
      → line_limit < length bytes → after ≡ state.session → text ≡ too_long_text → down ≡ true → looks_after ≡ looks_before
      → AnswersLine said read_only held rose state bytes after text down looks_before looks_after
  too_long after text down looks_before looks_after long is told turned looks = record {
    turn = TooLong bytes;
    line = refl;
    fits = long;
    session = is;
    is = told;
    turned = turned;
    looks = omega (arith, looks);
  }
