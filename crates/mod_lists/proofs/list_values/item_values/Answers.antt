use Rattle.mod_lists.proofs.list_values.item_values.Goals as goal

pub returns : goal.returns
returns c = record {
  told = λ conv vault clock known act code end rest.
      c.act_steps.ensures.seeing _ _ _ _ _ (rw (c.in_ok-values.ensures, c.get_item.ensures) at rest);
}
