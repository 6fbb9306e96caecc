-- A dictionary that lists a few texts or hashes many.
use Rattle.std.specs.Prelude.{◌-◌, min, vec_len, vec_capacity}
use Rattle.smk_base.specs.{Dicts.{DictImage, texts_of}, declared.rel.dict.Held.Held, declared.rel.dict.Held.TheVariants.{Few, Many}, declared.rel.dict.TheConstants.FEW}

-- the texts, and how many more fit without memory
abbrev pub dict_held : Held → DictImage
dict_held (Few list) = record { texts = texts_of list.items; room = min FEW (vec_capacity list) - vec_len list }
dict_held (Many hashed) = hashed.value
