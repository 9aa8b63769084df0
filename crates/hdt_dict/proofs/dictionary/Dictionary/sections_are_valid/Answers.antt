use Rattle.hdt_front.specs.Strings.{section_of}
use Rattle.hdt_dict.specs.Views.{dictionary_of}
use Rattle.hdt_dict.proofs.Dictionaries.{shared_subjects, shared_objects, subjects_objects}
use Rattle.hdt_dict.proofs.dictionary.Dictionary.sections_are_valid.Goals as goal

pub returns-clause-shared_subjects : goal.returns-clause-shared_subjects
unfolding dictionary_of section_of
returns-clause-shared_subjects c = shared_subjects c.args.self.now

pub returns-clause-shared_objects : goal.returns-clause-shared_objects
unfolding dictionary_of section_of
returns-clause-shared_objects c = shared_objects c.args.self.now

pub returns-clause-subjects_objects : goal.returns-clause-subjects_objects
unfolding dictionary_of section_of
returns-clause-subjects_objects c = subjects_objects c.args.self.now
