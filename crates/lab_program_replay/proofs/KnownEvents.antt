-- Values of the definitions in `specs/`, computed: of the lines of events.
use Rattle.std.proofs.Common.{◌≡◌, [], ◌∷◌, Some, None, refl, codes}
use Rattle.lab_forms_texts.specs.Names.{is_lab_code}
use Rattle.lab_program_replay.specs.Event.{Bad, End, Taken, cut_at, founding_of, heading_of, next_event, number_where, numbered}
use Rattle.lab_program_replay.specs.Fault.{fault_line}
use Rattle.lab_program_replay.specs.declared.fault.ReplayFault.TheVariants.{BadEvent}

the_end : next_event [] ≡ End
unfolding next_event
the_end = refl

a_call : next_event (codes "call 100 9 2\nabrest")
    ≡ Taken (record {
      founded = None;
      moment = 100;
      words = 9 ∷ 10 ∷ 11 ∷ 12 ∷ 13 ∷ 14 ∷ 15 ∷ 16 ∷ [];
      bytes = codes "ab";
    }) (codes "rest")
unfolding next_event cut_at founding_of heading_of number_where numbered
a_call = refl

a_founding_with_leading_zeros : next_event (codes "found aqua 00 1 000\n")
    ≡ Taken (record {
      founded = Some (codes "aqua");
      moment = 0;
      words = 1 ∷ 2 ∷ 3 ∷ 4 ∷ 5 ∷ 6 ∷ 7 ∷ 8 ∷ [];
      bytes = [];
    }) []
unfolding next_event cut_at founding_of heading_of number_where numbered is_lab_code
a_founding_with_leading_zeros = refl

a_line_without_its_line_feed : next_event (codes "call 100 9 0") ≡ Bad
unfolding next_event cut_at founding_of heading_of number_where numbered
a_line_without_its_line_feed = refl

the_line_of_a_bad_event : fault_line BadEvent ≡ codes "labdesk: bad_event\n"
the_line_of_a_bad_event = refl
