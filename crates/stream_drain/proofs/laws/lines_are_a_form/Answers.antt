use Rattle.stream_drain.proofs.FormLemmas as forms
use Rattle.stream_drain.proofs.laws.lines_are_a_form.Goals as goal

pub returns : goal.returns
returns c = forms.lines_are_a_form
