-- The groups of the marks, one after the other, and the looks that they take.
use Rattle.std.specs.Prelude.{Some}
use Rattle.std.proofs.{Common.{◌≡◌, ℕ, ◌+◌, ◌<◌, ◌≤◌, List, [], ◌∷◌, ◌++◌, length, take, refl, ap, sym, ◌∙◌, subst, arith, get_or}, lemmas.List.{take_more, take_all, length-map, get_or-map}, lemmas.List.Sums.{sum_by_more, sum_by_more_le, sum_by-take-le}}
use Rattle.smk_base.specs.{CatalogImage.{CatalogImage, catalog_image, view_place}, Rels.Relation, declared.reply.Group.Group, declared.reply.Reply.Reply, declared.reply.Reply.TheVariants.Back, declared.book.tree.Line.Line}
use Rattle.smk_model.specs.{Dependencies.{violation_at, no_violation}, Looks.line_looks, Profiles.{ShowsDependency, group_of, groups_of, looks_of_groups, mark_line, shown_by, violations_of}, Replies.reply, Session.{State, first_content}, Typing.info_at}
use Rattle.smk_model.proofs.Profiles.{dependencies_answered}
use Rattle.smk_session.specs.Sessions.{SessionImage, state_of}
use Rattle.smk_profile.specs.Marked.{HasMarks, IsAnsweredByRows, IsMarkLine, with_mark}

-- the first n of some groups are made, within as many looks as they have rows
pub record Marked (wanted : List Group) (n : ℕ) (groups : List Group) (before now : ℕ) : Type 0 where
  pub groups_are : groups ≡ take n wanted
  pub looks : now ≤ before + looks_of_groups (take n wanted)

pub begins : (wanted : List Group) (before : ℕ) → Marked wanted 0 [] before before
begins wanted before = record { groups_are = refl; looks = omega arith }

pub one_more : (wanted : List Group) (n before now after : ℕ) (groups : List Group) (g : Group) → Marked wanted n groups before now → n < length wanted → get_or wanted n g ≡ g → after ≤ now + length g.rids
    → Marked wanted (n + 1) (groups ++ g ∷ []) before after
one_more wanted n before now after groups g made low is looks = record {
  groups_are = ap (λ xs. xs ++ g ∷ []) made.groups_are ∙ sym (take_more wanted n g low ∙ rw is refl);
  looks = omega (arith, made.looks, looks, ap (λ (x : Group). length x.rids) is, sum_by_more (λ (x : Group). length x.rids) wanted n g low);
}

pub within : (wanted : List Group) (n before now : ℕ) (groups : List Group) → Marked wanted n groups before now → now ≤ before + looks_of_groups wanted
within wanted n before now groups made = omega (arith, made.looks, sum_by-take-le (λ (x : Group). length x.rids) wanted n)

pub ends : (wanted : List Group) (n before now : ℕ) (groups : List Group) → Marked wanted n groups before now → length wanted ≤ n → groups ≡ wanted
ends wanted n before now groups made high = made.groups_are ∙ take_all n wanted high

-- the `back` line for a mark of the view of a dependency is answered by the group of that mark

-- the group of a mark
abbrev pub group_at : CatalogImage → State → ℕ → ℕ → Group
group_at catalog state v mark = group_of catalog state (shown_by catalog v).table (violation_at (violations_of state (shown_by catalog v)) mark)

abbrev pub wanted : CatalogImage → State → ℕ → List Group
wanted catalog state v = groups_of catalog state (shown_by catalog v)

abbrev pub line_of : CatalogImage → List ℕ → ℕ → ℕ → Line
line_of catalog view v mark = mark_line view (info_at catalog.tables (shown_by catalog v).table).name mark

wanted_long : (catalog : CatalogImage) (state : State) (v : ℕ) → length (wanted catalog state v) ≡ length (violations_of state (shown_by catalog v))
wanted_long catalog state v = length-map (violations_of state (shown_by catalog v)) (group_of catalog state (shown_by catalog v).table)

pub wanted_number : (catalog : CatalogImage) (state : State) (view : List ℕ) (v : ℕ) → view_place catalog view ≡ Some v → ShowsDependency catalog v → length (wanted catalog state v) ≡ length (first_content catalog state v)
wanted_number catalog state view v placed shows = wanted_long catalog state v ∙ sym (dependencies_answered catalog state view v placed shows).number

pub wanted_at : (catalog : CatalogImage) (state : State) (v mark : ℕ) → mark < length (wanted catalog state v) → get_or (wanted catalog state v) mark (group_at catalog state v mark) ≡ group_at catalog state v mark
wanted_at catalog state v mark low = get_or-map (group_of catalog state (shown_by catalog v).table) (violations_of state (shown_by catalog v)) mark no_violation _ (omega (arith, low, wanted_long catalog state v))

pub reply_is : (catalog : CatalogImage) (state : State) (view : List ℕ) (v mark : ℕ) → view_place catalog view ≡ Some v → ShowsDependency catalog v → mark < length (wanted catalog state v)
    → reply catalog state (line_of catalog view v mark) ≡ (Back (group_at catalog state v mark).rids (group_at catalog state v mark).rows, state)
reply_is catalog state view v mark placed shows low = (dependencies_answered catalog state view v placed shows).back mark (omega (arith, low, wanted_long catalog state v))

pub answered : (catalog : CatalogImage) (state : State) (view : List ℕ) (v mark : ℕ) → view_place catalog view ≡ Some v → ShowsDependency catalog v → mark < length (wanted catalog state v)
    → IsAnsweredByRows catalog state (line_of catalog view v mark)
answered catalog state view v mark placed shows low = let is = reply_is catalog state view v mark placed shows low in record { rows = rw is tt; stays = rw is refl }

looks_are : (catalog : CatalogImage) (state : State) (view : List ℕ) (v mark : ℕ) → view_place catalog view ≡ Some v → ShowsDependency catalog v → mark < length (wanted catalog state v)
    → line_looks catalog state (line_of catalog view v mark) ≡ length (group_at catalog state v mark).rids
looks_are catalog state view v mark placed shows low = rw (reply_is catalog state view v mark placed shows low) refl

pub stops : (catalog : CatalogImage) (state : State) (view : List ℕ) (v mark before now after : ℕ) (groups : List Group) → view_place catalog view ≡ Some v → ShowsDependency catalog v → mark < length (wanted catalog state v)
    → Marked (wanted catalog state v) mark groups before now → after ≤ now + line_looks catalog state (line_of catalog view v mark) → after ≤ before + looks_of_groups (wanted catalog state v)
stops catalog state view v mark before now after groups placed shows low made looks =
    let is = wanted_at catalog state v mark low in
    omega (arith, made.looks, looks, looks_are catalog state view v mark placed shows low, ap (λ (g : Group). length g.rids) is, sum_by_more_le (λ (g : Group). length g.rids) (wanted catalog state v) mark (group_at catalog state v mark) low)

same_group : (a b : Group) → Back a.rids a.rows ≡ Back b.rids b.rows → a ≡ b
same_group a b h =
    let make : List ℕ → Relation → Group = λ rids rows. record { rids = rids; rows = rows } in
    let rids : a.rids ≡ b.rids = cc in
    let rows : a.rows ≡ b.rows = cc in
    ap (λ (x : List ℕ). make x a.rows) rids ∙ ap (make b.rids) rows

pub marks_on : (catalog : CatalogImage) (state : State) (view : List ℕ) (v mark before now after : ℕ) (groups : List Group) (g : Group) → view_place catalog view ≡ Some v → ShowsDependency catalog v → mark < length (wanted catalog state v)
    → Marked (wanted catalog state v) mark groups before now → (reply catalog state (line_of catalog view v mark)).0 ≡ Back g.rids g.rows → after ≤ now + line_looks catalog state (line_of catalog view v mark)
    → Marked (wanted catalog state v) (mark + 1) (groups ++ g ∷ []) before after
marks_on catalog state view v mark before now after groups g placed shows low made told looks =
    let d = group_at catalog state v mark in
    let told2 : Back d.rids d.rows ≡ Back g.rids g.rows = ap (λ (p : Reply × State). p.0) (sym (reply_is catalog state view v mark placed shows low)) ∙ told in
    let e : d ≡ g = same_group d g told2 in
    one_more (wanted catalog state v) mark before now after groups g made low (subst (λ (x : Group). get_or (wanted catalog state v) mark x ≡ x) e (wanted_at catalog state v mark low))
    (omega (arith, looks, looks_are catalog state view v mark placed shows low, ap (λ (x : Group). length x.rids) e))

-- another mark in the place of that of the `back` line for a mark
pub has_marks : (view table : List ℕ) (line : Line) → IsMarkLine view table line → HasMarks line
has_marks view table line asks = subst HasMarks (sym asks.1) tt

pub marked_with : (view table : List ℕ) (line now : Line) (mark : ℕ) → IsMarkLine view table line → now ≡ with_mark line mark → now ≡ mark_line view table mark
marked_with view table line now mark asks is = is ∙ ap (λ (x : Line). with_mark x mark) asks.1

-- the same in a session that is as it was, for the line of the n-th of as many marks as the view has rows
pub record Meets (old : SessionImage) (view : List ℕ) (v mark count : ℕ) (line : Line) : Type 0 where
  pub placed : view_place (catalog_image old.catalog) view ≡ Some v
  pub shows : ShowsDependency (catalog_image old.catalog) v
  pub asked : line ≡ line_of (catalog_image old.catalog) view v mark
  pub number : count ≡ length (first_content (catalog_image old.catalog) (state_of old) v)
  pub low : mark < count

abbrev pub wanted_in : SessionImage → ℕ → List Group
wanted_in old v = wanted (catalog_image old.catalog) (state_of old) v

low_in : (old : SessionImage) (view : List ℕ) (v mark count : ℕ) (line : Line) → Meets old view v mark count line → mark < length (wanted_in old v)
low_in old view v mark count line meets = omega (arith, meets.low, meets.number, wanted_number (catalog_image old.catalog) (state_of old) view v meets.placed meets.shows)

pub answered_in : (old now : SessionImage) (view : List ℕ) (v mark count : ℕ) (line : Line) → now ≡ old → Meets old view v mark count line → IsAnsweredByRows (catalog_image now.catalog) (state_of now) line
answered_in old now view v mark count line same meets =
    let stands = answered (catalog_image old.catalog) (state_of old) view v mark meets.placed meets.shows (low_in old view v mark count line meets) in
    subst (λ (s : SessionImage). IsAnsweredByRows (catalog_image s.catalog) (state_of s) line) (sym same)
    (subst (λ (l : Line). IsAnsweredByRows (catalog_image old.catalog) (state_of old) l) (sym meets.asked) stands)

looks_in : (old now : SessionImage) (view : List ℕ) (v mark count : ℕ) (line : Line) (before after : ℕ) → now ≡ old → Meets old view v mark count line
    → after ≤ before + line_looks (catalog_image now.catalog) (state_of now) line → after ≤ before + line_looks (catalog_image old.catalog) (state_of old) (line_of (catalog_image old.catalog) view v mark)
looks_in old now view v mark count line before after same meets h =
    subst (λ (l : Line). after ≤ before + line_looks (catalog_image old.catalog) (state_of old) l) meets.asked
    (subst (λ (s : SessionImage). after ≤ before + line_looks (catalog_image s.catalog) (state_of s) line) same h)

pub stops_in : (old now : SessionImage) (view : List ℕ) (v mark count : ℕ) (line : Line) (first before after : ℕ) (groups : List Group) → now ≡ old → Meets old view v mark count line
    → Marked (wanted_in old v) mark groups first before → after ≤ before + line_looks (catalog_image now.catalog) (state_of now) line → after ≤ first + looks_of_groups (wanted_in old v)
stops_in old now view v mark count line first before after groups same meets made h =
    stops (catalog_image old.catalog) (state_of old) view v mark first before after groups meets.placed meets.shows (low_in old view v mark count line meets) made (looks_in old now view v mark count line before after same meets h)

pub on_in : (old now : SessionImage) (view : List ℕ) (v mark count : ℕ) (line : Line) (first before after : ℕ) (groups : List Group) (g : Group) → now ≡ old → Meets old view v mark count line
    → Marked (wanted_in old v) mark groups first before → (reply (catalog_image now.catalog) (state_of now) line).0 ≡ Back g.rids g.rows
    → after ≤ before + line_looks (catalog_image now.catalog) (state_of now) line → Marked (wanted_in old v) (mark + 1) (groups ++ g ∷ []) first after
on_in old now view v mark count line first before after groups g same meets made told h =
    let told2 = subst (λ (l : Line). (reply (catalog_image old.catalog) (state_of old) l).0 ≡ Back g.rids g.rows) meets.asked
    (subst (λ (s : SessionImage). (reply (catalog_image s.catalog) (state_of s) line).0 ≡ Back g.rids g.rows) same told) in
    marks_on (catalog_image old.catalog) (state_of old) view v mark first before after groups g meets.placed meets.shows (low_in old view v mark count line meets) made told2 (looks_in old now view v mark count line before after same meets h)
