-- What you can say in a conversation.
use Rattle.std.specs.{Prelude.{ℕ, List, [], ◌∷◌, codes}, List.concat}
use Rattle.smk_model.specs.Texts.{line}

-- each form of line, and an example of it in a comment
abbrev pub help_text : List ℕ
help_text = concat (
    line (codes "show VIEW  # show by_region" ∷ [])
    ∷ line (codes "back VIEW MARKS to TABLE [where COLUMN = VALUE | group]  # back by_region 0,2 to sales where amount = 30" ∷ [])
    ∷ line (codes "fwd TABLE RIDS to VIEW  # fwd sales 0,2 to big" ∷ [])
    ∷ line (codes "ask back VIEW MARKS to TABLE | STEP ..  # ask back by_region all to sales | group id {n = count}" ∷ [])
    ∷ line (codes "brush VIEW MARKS on TABLE  # brush by_region 0 on sales" ∷ [])
    ∷ line (codes "clear [VIEW on TABLE]  # clear by_region on sales" ∷ [])
    ∷ line (codes "fd NAME  # fd towns" ∷ [])
    ∷ line (codes "append TABLE FILE  # append sales " ∷ (34 ∷ []) ∷ codes "more.csv" ∷ (34 ∷ []) ∷ [])
    ∷ line (codes ".now back|ask ..  # .now back by_region 0 to sales" ∷ [])
    ∷ line (codes ".part FROM BELOW show|back|ask|.now|.selected ..  # .part 0 100 .now back by_region 0 to sales" ∷ [])
    ∷ line (codes ".selected TABLE [| STEP ..]  # .selected sales | group region {n = count}" ∷ [])
    ∷ line (codes ".brief brush|clear|fd ..  # .brief brush by_region all on sales" ∷ [])
    ∷ line (codes ".schema" ∷ [])
    ∷ line (codes ".help" ∷ [])
    ∷ [])
