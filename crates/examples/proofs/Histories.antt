-- The generated histories, by computing: in parts, since one computation may take only so many steps. Assumes nothing.
use mathlib.Core.List.{List, [], ◌∷◌, ◌++◌, map}
use mathlib.Core.Path.{◌≡◌, refl, ap₂}
use Rattle.plain.specs.History.{heard}
use Rattle.examples.specs.Told.{History, start_of, heard_of}
use Rattle.examples.specs.Histories.{histories, history_1, history_2, history_3, history_4, history_5, history_6, history_7, history_8, history_9, history_10, history_11, history_12, history_13, history_14, history_15, history_16, history_17, history_18, history_19, history_20, history_21, history_22, history_23, history_24, history_25, history_26, history_27, history_28, history_29, history_30, history_31, history_32, history_33, history_34, history_35, history_36, history_37, history_38, history_39, history_40, history_41, history_42, history_43, history_44, history_45, history_46, history_47, history_48, history_49, history_50, history_51, history_52, history_53, history_54, history_55, history_56, history_57, history_58, history_59, history_60, history_61, history_62, history_63, history_64, history_65, history_66, history_67, history_68, history_69, history_70, history_71, history_72, history_73, history_74, history_75, history_76, history_77, history_78, history_79, history_80, history_81, history_82, history_83}
use Rattle.examples.specs.Theorems.{HistoriesAreAsDue}
use Rattle.examples.proofs.Computed.{computed}

-- what is heard of these histories' calls is what is due
abbrev Heard : List History → Type 0
Heard hs = map heard_of hs ≡ map (λ (h : History). h.due) hs

abbrev first_part : List History
first_part = history_1 ∷ history_2 ∷ history_3 ∷ history_4 ∷ history_5 ∷ history_6 ∷ history_7 ∷ history_8 ∷ history_9 ∷ history_10 ∷ history_11 ∷ history_12 ∷ history_13 ∷ history_14 ∷ history_15 ∷ history_16 ∷ history_17 ∷ history_18 ∷ history_19 ∷ history_20 ∷ []

first_heard : Heard first_part
unfolding computed heard heard_of history_1 history_2 history_3 history_4 history_5 history_6 history_7 history_8 history_9 history_10 history_11 history_12 history_13 history_14 history_15 history_16 history_17 history_18 history_19 history_20
first_heard = refl

abbrev second_part : List History
second_part = history_21 ∷ history_22 ∷ history_23 ∷ history_24 ∷ history_25 ∷ history_26 ∷ history_27 ∷ history_28 ∷ history_29 ∷ history_30 ∷ history_31 ∷ history_32 ∷ history_33 ∷ history_34 ∷ history_35 ∷ history_36 ∷ history_37 ∷ history_38 ∷ history_39 ∷ history_40 ∷ history_41 ∷ []

second_heard : Heard second_part
unfolding computed heard heard_of history_21 history_22 history_23 history_24 history_25 history_26 history_27 history_28 history_29 history_30 history_31 history_32 history_33 history_34 history_35 history_36 history_37 history_38 history_39 history_40 history_41
second_heard = refl

abbrev third_part : List History
third_part = history_42 ∷ history_43 ∷ history_44 ∷ history_45 ∷ history_46 ∷ history_47 ∷ history_48 ∷ history_49 ∷ history_50 ∷ history_51 ∷ history_52 ∷ history_53 ∷ history_54 ∷ history_55 ∷ history_56 ∷ history_57 ∷ history_58 ∷ history_59 ∷ history_60 ∷ history_61 ∷ history_62 ∷ []

third_heard : Heard third_part
unfolding computed heard heard_of history_42 history_43 history_44 history_45 history_46 history_47 history_48 history_49 history_50 history_51 history_52 history_53 history_54 history_55 history_56 history_57 history_58 history_59 history_60 history_61 history_62
third_heard = refl

abbrev fourth_part : List History
fourth_part = history_63 ∷ history_64 ∷ history_65 ∷ history_66 ∷ history_67 ∷ history_68 ∷ history_69 ∷ history_70 ∷ history_71 ∷ history_72 ∷ history_73 ∷ history_74 ∷ history_75 ∷ history_76 ∷ history_77 ∷ history_78 ∷ history_79 ∷ history_80 ∷ history_81 ∷ history_82 ∷ history_83 ∷ []

fourth_heard : Heard fourth_part
unfolding computed heard heard_of history_63 history_64 history_65 history_66 history_67 history_68 history_69 history_70 history_71 history_72 history_73 history_74 history_75 history_76 history_77 history_78 history_79 history_80 history_81 history_82 history_83
fourth_heard = refl

all_heard : Heard histories
unfolding histories
all_heard = ap₂ ◌++◌ first_heard (ap₂ ◌++◌ second_heard (ap₂ ◌++◌ third_heard fourth_heard))

all_started : map start_of histories ≡ map (λ (h : History). h.start) histories
unfolding computed start_of histories history_1 history_2 history_3 history_4 history_5 history_6 history_7 history_8 history_9 history_10 history_11 history_12 history_13 history_14 history_15 history_16 history_17 history_18 history_19 history_20 history_21 history_22 history_23 history_24 history_25 history_26 history_27 history_28 history_29 history_30 history_31 history_32 history_33 history_34 history_35 history_36 history_37 history_38 history_39 history_40 history_41 history_42 history_43 history_44 history_45 history_46 history_47 history_48 history_49 history_50 history_51 history_52 history_53 history_54 history_55 history_56 history_57 history_58 history_59 history_60 history_61 history_62 history_63 history_64 history_65 history_66 history_67 history_68 history_69 history_70 history_71 history_72 history_73 history_74 history_75 history_76 history_77 history_78 history_79 history_80 history_81 history_82 history_83
all_started = refl

pub histories_are_as_due : HistoriesAreAsDue
histories_are_as_due = record { starts = all_started; calls = all_heard }
